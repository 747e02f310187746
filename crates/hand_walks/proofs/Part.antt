-- An array of bytes in a field of a struct is lent as a `&[u8]` while the struct lies in memory, whole or shared, and the struct comes back. It says nothing of the crate.
--     Part F P         F lies in P: F beside the way back, F ∗ (F -∗ P)
--     second_field     the second of two fields, and `one_field` the only one, of a struct in memory
--     bytes_part       an array of bytes in memory is its bytes side by side
--     lends_part       given `Room`:  Part (the share t of ys at (b, o)) P  ⊢ ⇛ own (the `&κ [u8]` ((b, o), ys)) ∗ PartLent
--     part_back        [†κ] ∗ PartLent  ⊢ ⇛ P
-- and of a lifetime α that is made for a call, beside a lifetime κ of the caller's:
--     lft_beside       [α] ∗ [κ]_q  ⊢  [α ∷ κ]_q ∗ ([α ∷ κ]_q -∗ [α] ∗ [κ]_q)
--     shorter_slice    a `&κ [T]` is a `&(α ∷ κ) [T]`
--     dead_beside      [†α]  ⊢  [†(α ∷ κ)]
-- Assumes `Logic`.
use Prim.Native.Nat.{ℕ, zero, ◌+◌}
use mathlib.Core.Path.{◌≡◌, refl, sym, ◌∙◌, subst}
use mathlib.Core.List.{List, [], ◌∷◌, mem-append_left, mem-append_right}
use lib.ListN.{length}
use seplogic.Ra.Ura.{Ura}
use base.Fraction.{full_share}
use mir.Syntax.{Ty, Tys, Sym, Lifetime, ty_int, ty_array, ty_struct, tcons, tnil, w8}
use mir.Val.{Val, Vals, vstruct, vcons, vnil}
use base.Logic.{SProp, ent, sep, emp, wand, all, all_e, apply∗, mono_r, snd∗}
use base.Fml.{Lft, Share, Fml, Incl, fsep, fat, feq, fhide, flft, fdead, flent}
use prog.Memory.{size, align, up}
use prog.Model.{fields_at}
use types.Logic.{Logic, sem}
use types.Kit.{‵, raw, ◌⊛◌, later, ◌$◌, ◌∵◌, !, qed, move, drop, use1, use2, rewrite, split, join, fsplit, fjoin, fpick, fpack, feq_i, frame, await, updating, now as at_once, assume, done}
use types.Tokens.{lent_back}
use types.Share.{parts, arr_parts}
use denote.RattleType.{RowLaws, RattleType}
use denote.Shadow.{pure_i}
use denote.Laws.{Is, Tells, Makes, shows}
use denote.Memory.{cell_at, part_at, part_of, mem, shares}
use denote.Array.{Array, Array-Tells, array_vals, Array-Makes}
use denote.ArrayMemory.{Array-apart, Array-whole}
use denote.Plain.{uint_vals, uint_Tells, uint_Makes}
use denote.Builtin.{u8}
use denote.Ref.{Bor}
use denote.Slice.{ShrSlice, Room, slice_val, shr_slice_at, elements_shared, elements_shr_laws}
use denote.Steps.{owned, peeks}
use denote.Lends.{Lent-map}
use denote.Copied.{uint_Copied, each_lends}
use denote.SharingLaws.{shortens}

-- where the second field of a struct begins
abbrev pub second_at : Ty → Ty → ℕ
second_at σ τ = up (align τ) (up (align σ) zero + size σ)

-- the bytes of an array at the share q
abbrev pub bytes_at : ℕ → Share → List ℕ → ℕ → ℕ → Fml
bytes_at n q xs b o = (arr_parts (shares u8) n).part q xs b o

-- the machine value of an array of bytes
abbrev pub bytes_val : List ℕ → List Val
bytes_val = array_vals (uint_vals w8)

abbrev pub Part : {M : Type 1} (𝓤 : Ura M) → SProp 𝓤 → SProp 𝓤 → SProp 𝓤
Part 𝓤 F P = sep 𝓤 F (wand 𝓤 F P)

module _ {M : Type 1} {𝓤 : Ura M} (𝓛 : Logic 𝓤) where
  open 𝓛 use {H, A}

  abbrev ⟦◌⟧ : Fml → SProp 𝓤
  ⟦ P ⟧ = sem 𝓛 P

  pub within : (F G P : SProp 𝓤) → ent 𝓤 G (Part 𝓤 F G) → ent 𝓤 P (Part 𝓤 G P) → ent 𝓤 P (Part 𝓤 F P)
  within F G P f g =
      qed 𝓛 (raw P ∷ []) ∵ use1 𝓛 (raw G ⊛ raw (wand 𝓤 G P)) g $ split ! $ use1 𝓛 (raw F ⊛ raw (wand 𝓤 F G)) f $ split ! $ frame ! $ assume ! (raw F) $ use2 𝓛 (raw G) (apply∗ 𝓤 F G) $ use2 𝓛 (raw P) (apply∗ 𝓤 G P) $ done !

  -- ---- fields

  module _ (q : Share) (ν : Sym) (b o : ℕ) where
    abbrev Back : Tys → SProp 𝓤
    Back τs = all 𝓤 (λ (us : Vals). wand 𝓤 (fields_at 𝓤 H q τs zero b o us) (H.at q (ty_struct ν τs) b o (vstruct us)))

    pub one_field : (τ : Ty) (v : Val) → ent 𝓤 ⟦ fat q (ty_struct ν (tcons τ tnil)) b o (vstruct (vcons v vnil)) ⟧
        (Part 𝓤 ⟦ fat q τ b (o + up (align τ) zero) v ⟧ ⟦ fat q (ty_struct ν (tcons τ tnil)) b o (vstruct (vcons v vnil)) ⟧)
    one_field τ v =
        qed 𝓛 (‵ (fat q (ty_struct ν (tcons τ tnil)) b o (vstruct (vcons v vnil))) ∷ []) ∵
        use1 𝓛 ((‵ (fat q τ b (o + up (align τ) zero) v) ⊛ raw (emp 𝓤)) ⊛ raw (Back (tcons τ tnil))) (𝓛.laws.at_fields q ν (tcons τ tnil) b o (vcons v vnil)) $ split ! $ move ! (1 ∷ []) $
        use1 𝓛 (raw (wand 𝓤 (sep 𝓤 ⟦ fat q τ b (o + up (align τ) zero) v ⟧ (emp 𝓤)) ⟦ fat q (ty_struct ν (tcons τ tnil)) b o (vstruct (vcons v vnil)) ⟧)) (all_e 𝓤 (λ (us : Vals). wand 𝓤 (fields_at 𝓤 H q (tcons τ tnil) zero b o us) (H.at q (ty_struct ν (tcons τ tnil)) b o (vstruct us))) (vcons v vnil)) $
        move ! (1 ∷ []) $ split ! $ frame ! $ assume ! (‵ (fat q τ b (o + up (align τ) zero) v)) $ join ! $ use2 𝓛 (‵ (fat q (ty_struct ν (tcons τ tnil)) b o (vstruct (vcons v vnil)))) (apply∗ 𝓤 (sep 𝓤 ⟦ fat q τ b (o + up (align τ) zero) v ⟧ (emp 𝓤)) ⟦ fat q (ty_struct ν (tcons τ tnil)) b o (vstruct (vcons v vnil)) ⟧) $ done !

    pub second_field : (σ τ : Ty) (u v : Val) → ent 𝓤 ⟦ fat q (ty_struct ν (tcons σ (tcons τ tnil))) b o (vstruct (vcons u (vcons v vnil))) ⟧
        (Part 𝓤 ⟦ fat q τ b (o + second_at σ τ) v ⟧ ⟦ fat q (ty_struct ν (tcons σ (tcons τ tnil))) b o (vstruct (vcons u (vcons v vnil))) ⟧)
    second_field σ τ u v =
        qed 𝓛 (‵ (fat q (ty_struct ν (tcons σ (tcons τ tnil))) b o (vstruct (vcons u (vcons v vnil)))) ∷ []) ∵
        use1 𝓛 ((‵ (fat q σ b (o + up (align σ) zero) u) ⊛ ‵ (fat q τ b (o + second_at σ τ) v) ⊛ raw (emp 𝓤)) ⊛ raw (Back (tcons σ (tcons τ tnil)))) (𝓛.laws.at_fields q ν (tcons σ (tcons τ tnil)) b o (vcons u (vcons v vnil))) $ split ! $ move ! (1 ∷ []) $
        use1 𝓛 (raw (wand 𝓤 (sep 𝓤 ⟦ fat q σ b (o + up (align σ) zero) u ⟧ (sep 𝓤 ⟦ fat q τ b (o + second_at σ τ) v ⟧ (emp 𝓤))) ⟦ fat q (ty_struct ν (tcons σ (tcons τ tnil))) b o (vstruct (vcons u (vcons v vnil))) ⟧)) (all_e 𝓤 (λ (us : Vals). wand 𝓤 (fields_at 𝓤 H q (tcons σ (tcons τ tnil)) zero b o us) (H.at q (ty_struct ν (tcons σ (tcons τ tnil))) b o (vstruct us))) (vcons u (vcons v vnil))) $
        move ! (1 ∷ []) $ split ! $ move ! (1 ∷ []) $ split ! $ frame ! $ assume ! (‵ (fat q τ b (o + second_at σ τ) v)) $
        -- [the field; emp; the other field; the way back]
        join ! $ move ! (1 ∷ 0 ∷ []) $ join ! $ use2 𝓛 (‵ (fat q (ty_struct ν (tcons σ (tcons τ tnil))) b o (vstruct (vcons u (vcons v vnil))))) (apply∗ 𝓤 (sep 𝓤 ⟦ fat q σ b (o + up (align σ) zero) u ⟧ (sep 𝓤 ⟦ fat q τ b (o + second_at σ τ) v ⟧ (emp 𝓤))) ⟦ fat q (ty_struct ν (tcons σ (tcons τ tnil))) b o (vstruct (vcons u (vcons v vnil))) ⟧) $ done !

  -- ---- an array of bytes

  bytes_tells : (n : ℕ) → Tells (Array u8 n) (Is (Array u8 n)) bytes_val
  bytes_tells n = Array-Tells u8 (uint_vals w8) (uint_Tells w8) n

  bytes_makes : (n : ℕ) → Makes 𝓛 (Array u8 n) (Is (Array u8 n))
  bytes_makes n = Array-Makes 𝓛 u8 (uint_Makes 𝓛 w8) n

  pub bytes_part : (n : ℕ) (q : Share) (xs : List ℕ) (v : Val) (b o : ℕ) → Is (Array u8 n) xs (v ∷ []) → ent 𝓤 ⟦ fat q (ty_array (ty_int w8) n) b o v ⟧ (Part 𝓤 ⟦ bytes_at n q xs b o ⟧ ⟦ fat q (ty_array (ty_int w8) n) b o v ⟧)
  unfolding part_of
  bytes_part n q xs v b o is =
      qed 𝓛 (‵ (fat q (ty_array (ty_int w8) n) b o v) ∷ []) ∵ use1 𝓛 (‵ (cell_at q (ty_array (ty_int w8) n ∷ []) (v ∷ []) b o)) (𝓛.laws.at_raw q (ty_array (ty_int w8) n) b o v) $
      owned ! (Array u8 n) (Is (Array u8 n)) (bytes_makes n) xs (v ∷ []) is $ move ! (1 ∷ 0 ∷ []) $ fjoin ! $
      fpack ! (List Val) (λ vs. fsep (cell_at q (ty_array (ty_int w8) n ∷ []) vs b o) ((Array u8 n).own_val xs vs)) (v ∷ []) $
      use1 𝓛 (‵ (bytes_at n q xs b o)) (Array-apart 𝓛 u8 q tt n xs b o) $ frame ! $ assume ! (‵ (bytes_at n q xs b o)) $
      use1 𝓛 (‵ (part_at (Array u8 n) q xs b o)) (Array-whole 𝓛 u8 q n xs b o) $ fpick ! (λ vs. fsplit ! $ move ! (1 ∷ []) $
      peeks ! (Array u8 n) (Is (Array u8 n)) (shows 𝓛 (Array u8 n)) xs vs (λ other. drop ! $
      rewrite ! 0 (λ (us : List Val). ‵ (cell_at q (ty_array (ty_int w8) n ∷ []) us b o)) (bytes_tells n xs vs other ∙ sym (bytes_tells n xs (v ∷ []) is)) refl $
      use1 𝓛 (‵ (fat q (ty_array (ty_int w8) n) b o v)) (𝓛.laws.raw_at q (ty_array (ty_int w8) n) b o v) $ done !))

  -- an array of bytes, the only field of a struct that is the second field of another
  module _ (n : ℕ) (q : Share) (ν μ : Sym) (σ : Ty) (u v : Val) (xs : List ℕ) (b o : ℕ) where
    abbrev τA : Ty
    τA = ty_array (ty_int w8) n

    abbrev τL : Ty
    τL = ty_struct μ (tcons τA tnil)

    abbrev Bytes : SProp 𝓤
    Bytes = ⟦ bytes_at n q xs b (o + second_at σ τL + up (align τA) zero) ⟧

    abbrev Whole : SProp 𝓤
    Whole = ⟦ fat q (ty_struct ν (tcons σ (tcons τL tnil))) b o (vstruct (vcons u (vcons (vstruct (vcons v vnil)) vnil))) ⟧

    abbrev Inner : SProp 𝓤
    Inner = ⟦ fat q τL b (o + second_at σ τL) (vstruct (vcons v vnil)) ⟧

    pub bytes_in_second : Is (Array u8 n) xs (v ∷ []) → ent 𝓤 Whole (Part 𝓤 Bytes Whole)
    bytes_in_second is =
        within Bytes Inner Whole
        (within Bytes ⟦ fat q τA b (o + second_at σ τL + up (align τA) zero) v ⟧ Inner (bytes_part n q xs v b (o + second_at σ τL + up (align τA) zero) is) (one_field q μ b (o + second_at σ τL) τA v))
        (second_field q ν b o σ τL u (vstruct (vcons v vnil)))

  -- ---- lent

  -- what the lender keeps
  abbrev pub PartLent : Lft → ℕ → Share → List ℕ → ℕ → ℕ → SProp 𝓤 → SProp 𝓤
  PartLent κ n t xs b o P = sep 𝓤 (A.lent κ (bytes_at n t xs b o)) (wand 𝓤 ⟦ bytes_at n t xs b o ⟧ P)

  abbrev pub a_part : ℕ → ℕ → List ℕ → Bor (List ℕ)
  a_part b o xs = record { ref_ptr = (b, o); now = xs }

  -- bytes can be copied, so they are lent with no token
  lends_bytes : (ℓ : Lifetime) (κ : Lft) (t : Share) (xs : List ℕ) (b o : ℕ) → Room u8 (length xs) → ent 𝓤 ⟦ bytes_at (length xs) t xs b o ⟧
      (H.⇛ (sep 𝓤 ⟦ (ShrSlice ℓ κ u8).own_val (a_part b o xs) (slice_val (b, o) (length xs) ∷ []) ⟧ (A.lent κ (bytes_at (length xs) t xs b o))))
  lends_bytes ℓ κ t xs b o room =
      let Bytes = bytes_at (length xs) t xs b o in
      let Each = parts (mem u8) (shares u8) t xs b o in
      qed 𝓛 (‵ Bytes ∷ []) ∵ updating ! $
      use1 𝓛 (later (‵ (fhide (elements_shared u8 xs b o κ)) ⊛ ‵ (flent κ Bytes)))
      (Lent-map 𝓛 Bytes Each (elements_shared u8 xs b o) (snd∗ 𝓤 ⟦ feq ℕ (length xs) (length xs) ⟧ ⟦ Each ⟧)
      (qed 𝓛 (‵ Each ∷ []) {P = ⟦ Bytes ⟧} (feq_i ! ℕ (length xs) (length xs) refl $ done !)) (each_lends 𝓛 u8 (uint_Copied 𝓛 w8) t xs b o) κ) $
      await ! tt $ split ! $ at_once ! $
      pure_i ! (shr_slice_at u8 (a_part b o xs) (slice_val (b, o) (length xs) ∷ [])) (tt, (tt, tt)) (refl, room) $ fjoin ! $ done !

  pub lends_part : (ℓ : Lifetime) (κ : Lft) (n : ℕ) (t : Share) (xs : List ℕ) (b o : ℕ) (P : SProp 𝓤) → length xs ≡ n → Room u8 n → ent 𝓤 P (Part 𝓤 ⟦ bytes_at n t xs b o ⟧ P)
      → ent 𝓤 P (H.⇛ (sep 𝓤 ⟦ (ShrSlice ℓ κ u8).own_val (a_part b o xs) (slice_val (b, o) n ∷ []) ⟧ (PartLent κ n t xs b o P)))
  lends_part ℓ κ n t xs b o P e room part =
      qed 𝓛 (raw P ∷ []) ∵ updating ! $ use1 𝓛 (‵ (bytes_at n t xs b o) ⊛ raw (wand 𝓤 ⟦ bytes_at n t xs b o ⟧ P)) part $ split ! $
      use1 𝓛 (later (‵ ((ShrSlice ℓ κ u8).own_val (a_part b o xs) (slice_val (b, o) n ∷ [])) ⊛ ‵ (flent κ (bytes_at n t xs b o)))) lends $ await ! tt $ split ! $ at_once ! $
      frame ! $ frame ! $ done !
    where
      lends : ent 𝓤 ⟦ bytes_at n t xs b o ⟧ (H.⇛ (sep 𝓤 ⟦ (ShrSlice ℓ κ u8).own_val (a_part b o xs) (slice_val (b, o) n ∷ []) ⟧ (A.lent κ (bytes_at n t xs b o))))
      lends = subst (λ (m : ℕ). ent 𝓤 ⟦ bytes_at m t xs b o ⟧ (H.⇛ (sep 𝓤 ⟦ (ShrSlice ℓ κ u8).own_val (a_part b o xs) (slice_val (b, o) m ∷ []) ⟧ (A.lent κ (bytes_at m t xs b o))))) e
          (lends_bytes ℓ κ t xs b o (subst (Room u8) (sym e) room))

  pub part_back : (κ : Lft) (n : ℕ) (t : Share) (xs : List ℕ) (b o : ℕ) (P : SProp 𝓤) → ent 𝓤 (sep 𝓤 (A.dead κ) (PartLent κ n t xs b o P)) (H.⇛ P)
  part_back κ n t xs b o P =
      qed 𝓛 (‵ (fdead κ) ∷ (‵ (flent κ (bytes_at n t xs b o)) ⊛ raw (wand 𝓤 ⟦ bytes_at n t xs b o ⟧ P)) ∷ []) ∵ updating ! $ move ! (1 ∷ []) $ split ! $ move ! (2 ∷ 0 ∷ []) $ lent_back ! tt $ at_once ! $ use2 𝓛 (raw P) (apply∗ 𝓤 ⟦ bytes_at n t xs b o ⟧ P) $ done !

  -- ---- a lifetime of a call beside one of the caller's

  module _ (α : ℕ) (κ : Lft) (q : Share) where
    abbrev pub Beside : SProp 𝓤
    Beside = wand 𝓤 (A.lft (α ∷ κ) q) (sep 𝓤 (A.lft (α ∷ []) full_share) (A.lft κ q))

    pub lft_beside : ent 𝓤 (sep 𝓤 (A.lft (α ∷ []) full_share) (A.lft κ q)) (sep 𝓤 (A.lft (α ∷ κ) q) Beside)
    lft_beside =
        qed 𝓛 (‵ (flft (α ∷ []) full_share) ∷ ‵ (flft κ q) ∷ []) ∵ use1 𝓛 (‵ (flft (α ∷ []) q) ⊛ raw (wand 𝓤 (A.lft (α ∷ []) q) (A.lft (α ∷ []) full_share))) (𝓛.lfts.lft_carve α q) $ split ! $
        move ! (0 ∷ 2 ∷ []) $ use2 𝓛 (‵ (flft (α ∷ κ) q)) (𝓛.lfts.lft_meet (α ∷ []) κ q) $ frame ! $ assume ! (‵ (flft (α ∷ κ) q)) $
        use1 𝓛 (‵ (flft (α ∷ []) q) ⊛ ‵ (flft κ q)) (𝓛.lfts.lft_unmeet (α ∷ []) κ q) $ split ! $ move ! (0 ∷ 2 ∷ []) $ use2 𝓛 (‵ (flft (α ∷ []) full_share)) (apply∗ 𝓤 (A.lft (α ∷ []) q) (A.lft (α ∷ []) full_share)) $ done !

    pub dead_beside : ent 𝓤 (A.dead (α ∷ [])) (A.dead (α ∷ κ))
    dead_beside = 𝓛.lfts.dead-incl (α ∷ κ) (α ∷ []) at_head
      where
        at_head : Incl (α ∷ κ) (α ∷ [])
        at_head a m = mem-append_left κ m

    -- of any type whose laws say that what a `&` to it holds is held for less, too
    pub shorter_slice : (R : RattleType) → RowLaws R → (ℓ ℓ' : Lifetime) (x : Bor (List R.Denot)) (vs : List Val) → ent 𝓤 ⟦ (ShrSlice ℓ κ R).own_val x vs ⟧ ⟦ (ShrSlice ℓ' (α ∷ κ) R).own_val x vs ⟧
    shorter_slice R laws ℓ ℓ' x vs =
        mono_r 𝓤 ⟦ shr_slice_at R x vs ⟧
        (shortens 𝓛 (elements_shared R x.now x.ref_ptr.0 x.ref_ptr.1) (elements_shr_laws R laws x.now x.ref_ptr.0 x.ref_ptr.1) κ (α ∷ κ) (λ a m. mem-append_right (α ∷ []) m))
