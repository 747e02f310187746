-- A local that holds a value is lent by `&mut` for a lifetime, and comes back once the lifetime is over. It says nothing of the crate.
--     lends_local      the local's cell at v ∗ own h v  ⊢ ⇛ ∃ γ. own (the `&κ mut R` ((b, 0), γ, h)) ∗ the lender's part
--     local_back       [†κ] ∗ the lender's part ∗ res γ h  ⊢ ⇛ (the local's cell at `val h` ∗ own h (val h))
-- `val` is R's machine value, which its relation tells; τ is the local's MIR type; `raw` and `unraw` are `𝓛.laws.at_raw full_share τ` and
-- `.raw_at`, which ask that τ and R's MIR type are one raw type. Assumes `Logic`.
use Prim.Native.Nat.{ℕ}
use mathlib.Core.List.{List, [], ◌∷◌}
use seplogic.Ra.Ura.{Ura}
use base.Fraction.{full_share}
use mir.Syntax.{Ty, Lifetime}
use mir.Val.{Val}
use base.Logic.{SProp, ent, sep, ex}
use base.Fml.{Lft, GName, Fml, fsep, fat, fdead, fres, flent}
use types.Logic.{Logic, sem}
use types.Kit.{‵, ◌⊛◌, later, ◌$◌, ◌∵◌, !, qed, by, use1, use2, use3, fsplit, fjoin, fpick, fpack, frame, await, updating, now as at_once, done}
use types.SemTy.{Body}
use denote.RattleType.{RattleType}
use denote.Laws.{Is, Tells, shows}
use denote.Memory.{mem, cell_at, part_at, part_of}
use denote.Lend.{LentRef, lends_ref, ref_back}
use denote.Struct.Steps.{spelt}

module _ {M : Type 1} {𝓤 : Ura M} (𝓛 : Logic 𝓤) (R : RattleType) (τ : Ty) (val : R.Denot → Val)
    (tells : Tells R (Is R) (λ d. val d ∷ [])) where
  open 𝓛 use {H, A}

  abbrev ⟦◌⟧ : Fml → SProp 𝓤
  ⟦ P ⟧ = sem 𝓛 P

  module _ (b : ℕ) (raw : (v : Val) → ent 𝓤 ⟦ fat full_share τ b 0 v ⟧ ⟦ cell_at full_share R.mir (v ∷ []) b 0 ⟧)
      (unraw : (v : Val) → ent 𝓤 ⟦ cell_at full_share R.mir (v ∷ []) b 0 ⟧ ⟦ fat full_share τ b 0 v ⟧) where
    lies : (h : R.Denot) (v : Val) → ent 𝓤 (sep 𝓤 ⟦ fat full_share τ b 0 v ⟧ ⟦ R.own_val h (v ∷ []) ⟧) ⟦ part_at R full_share h b 0 ⟧
    unfolding part_of
    lies h v =
        qed 𝓛 (‵ (fat full_share τ b 0 v) ∷ ‵ (R.own_val h (v ∷ [])) ∷ []) ∵
        use1 𝓛 (‵ (cell_at full_share R.mir (v ∷ []) b 0)) (raw v) $ fjoin ! $
        fpack ! (List Val) (λ us. fsep (cell_at full_share R.mir us b 0) (R.own_val h us)) (v ∷ []) $ done !

    back : (h : R.Denot) → ent 𝓤 ⟦ part_at R full_share h b 0 ⟧ (sep 𝓤 ⟦ fat full_share τ b 0 (val h) ⟧ ⟦ R.own_val h (val h ∷ []) ⟧)
    unfolding part_of
    back h =
        qed 𝓛 (‵ (part_at R full_share h b 0) ∷ []) ∵
        fpick ! (λ vs. fsplit ! $ spelt ! R (Is R) (shows 𝓛 R) (λ d. val d ∷ []) tells full_share h vs b 0 $
        use1 𝓛 (‵ (fat full_share τ b 0 (val h))) (unraw (val h)) $ frame ! $ done !)

    pub lends_local : (ℓ : Lifetime) (κ : Lft) (h : R.Denot) (v : Val)
        → ent 𝓤 (sep 𝓤 ⟦ fat full_share τ b 0 v ⟧ ⟦ R.own_val h (v ∷ []) ⟧) (H.⇛ (ex 𝓤 (LentRef 𝓛 R ℓ κ h b 0)))
    lends_local ℓ κ h v =
        qed 𝓛 (‵ (fat full_share τ b 0 v) ∷ ‵ (R.own_val h (v ∷ [])) ∷ []) ∵
        use2 𝓛 (‵ (part_at R full_share h b 0)) (lies h v) $ by ! (lends_ref 𝓛 R ℓ κ h b 0)

    pub local_back : (κ : Lft) (γ : GName) (h : R.Denot)
        → ent 𝓤 (sep 𝓤 (A.dead κ) (sep 𝓤 (A.lent κ (Body (mem R) b 0 γ)) (A.res γ (R.coded.code h))))
        (H.⇛ (sep 𝓤 ⟦ fat full_share τ b 0 (val h) ⟧ ⟦ R.own_val h (val h ∷ []) ⟧))
    local_back κ γ h =
        qed 𝓛 (‵ (fdead κ) ∷ ‵ (flent κ (Body (mem R) b 0 γ)) ∷ ‵ (fres γ (R.coded.code h)) ∷ []) ∵ updating ! $
        use3 𝓛 (later (‵ (part_at R full_share h b 0))) (ref_back 𝓛 R κ γ h b 0) $ await ! tt $
        use1 𝓛 (‵ (fat full_share τ b 0 (val h)) ⊛ ‵ (R.own_val h (val h ∷ []))) (back h) $ at_once ! $ done !
