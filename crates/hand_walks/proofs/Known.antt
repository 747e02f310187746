-- What a walk has to know of a type of plain data whose values it only passes on. A walk over `Known` types does not look inside them, so
-- that its terms do not grow with an operation's fields. Assumes nothing.
use Prim.Native.Nat.{ℕ, ◌+◌}
use mathlib.Core.Path.{◌≡◌}
use mathlib.Core.Option.{some}
use mathlib.Core.List.{List, [], ◌∷◌}
use lib.Dec.{T as Holds}
use lib.ListN.{length}
use seplogic.Ra.Ura.{Ura}
use mir.Syntax.{Ty, Sym, Lifetime, Mutability, Width, ty_int, ty_array, ty_ref, ty_struct, tcons, tnil, w8, w64}
use mir.Val.{Val, WT, has_ty, vstruct, vcons, vnil}
use base.Logic.{ent}
use base.Fml.{Share, fat}
use prog.Memory.{field_of}
use types.Logic.{Logic, sem}
use denote.RattleType.{RattleType}
use denote.Ref.{Bor}
use denote.Slice.{slice_val}
use denote.Memory.{cell_at, lone}
use denote.Laws.{Is, Tells, Makes, Copy}
use denote.Struct.Declared as Struct
use denote.Struct.Laws as StructLaws
use denote.Struct.Struct.{Plains}
use denote.Enum.Declared as Enum
use denote.Enum.Laws as EnumLaws
use denote.Enum.Enum.{Plainss, Few}
use Rattle.hand_walks.proofs.Part.{Part, bytes_at, second_at}

-- a slice as MIR has it: `&[]` is 38 91 93
abbrev pub slice_ty : Lifetime → Mutability → Width → Ty
slice_ty l m w = ty_struct (38 ∷ 91 ∷ 93 ∷ []) (tcons (ty_ref l m (ty_int w)) (tcons (ty_int w64) tnil))

-- the machine value of a lent slice
abbrev pub slice : Bor (List ℕ) → Val
slice s = slice_val s.ref_ptr (length s.now)

module _ {M : Type 1} {𝓤 : Ura M} (𝓛 : Logic 𝓤) where
  pub record Known : Type 2 where
    pub row : RattleType
    pub ty : Ty
    pub val : row.Denot → Val
    pub tells : Tells row (Is row) (λ x. val x ∷ [])
    pub typed : (x : row.Denot) (v : Val) → Is row x (v ∷ []) → Holds (has_ty ty v) × WT v
    pub makes : Makes 𝓛 row (Is row)

  -- a declared struct, and a declared enum
  abbrev pub of_struct : (T : Struct.Declared) → StructLaws.Laws T → Plains (Struct.fields T) → Known
  of_struct T L pl = record {
    row = Struct.row T;
    ty = lone (Struct.row T).mir;
    val = StructLaws.val T L;
    tells = StructLaws.tells T L;
    typed = λ x v is. ((StructLaws.lawful T L 𝓛).typed x (v ∷ []) is).0;
    makes = StructLaws.makes T pl 𝓛;
  }

  abbrev pub of_enum : (T : Enum.Declared) → EnumLaws.Laws T → Few (Enum.shape T) → Plainss (Enum.variants T) → Known
  of_enum T L few pl = record {
    row = Enum.row T;
    ty = lone (Enum.row T).mir;
    val = EnumLaws.val T L;
    tells = EnumLaws.tells T L;
    typed = λ x v is. ((EnumLaws.lawful T L 𝓛 few).typed x (v ∷ []) is).0;
    makes = EnumLaws.makes T pl 𝓛;
  }

  -- a struct of two fields, as it lies in memory
  pub record Duo (S L : Known) : Type 2 where
    pub row : RattleType
    pub name : Sym
    pub first : row.Denot → S.row.Denot
    pub second : row.Denot → L.row.Denot
    pub put : S.row.Denot → L.row.Denot → row.Denot
    pub tells : Tells row (Is row) (λ h. vstruct (vcons (S.val (first h)) (vcons (L.val (second h)) vnil)) ∷ [])
    pub typed : (h : row.Denot) (v : Val) → Is row h (v ∷ []) → Holds (has_ty (ty_struct name (tcons S.ty (tcons L.ty tnil))) v) × WT v
    pub owed_first : (h : row.Denot) (v : Val) → Is row h (v ∷ []) → Is S.row (first h) (S.val (first h) ∷ [])
    pub owed_second : (h : row.Denot) (v : Val) → Is row h (v ∷ []) → Is L.row (second h) (L.val (second h) ∷ [])
    pub owes : (x : S.row.Denot) (y : L.row.Denot) → Is S.row x (S.val x ∷ []) → Is L.row y (L.val y ∷ []) → Is row (put x y) (vstruct (vcons (S.val x) (vcons (L.val y) vnil)) ∷ [])
    pub makes : Makes 𝓛 row (Is row)
    pub copy : Copy 𝓛 row
    pub opened : (q : Share) (b o : ℕ) (v : Val) → ent 𝓤 (sem 𝓛 (cell_at q row.mir (v ∷ []) b o)) (sem 𝓛 (fat q (ty_struct name (tcons S.ty (tcons L.ty tnil))) b o v))
    pub shut : (q : Share) (b o : ℕ) (v : Val) → ent 𝓤 (sem 𝓛 (fat q (ty_struct name (tcons S.ty (tcons L.ty tnil))) b o v)) (sem 𝓛 (cell_at q row.mir (v ∷ []) b o))

  -- such a struct whose second field is a struct of n bytes, which can be lent by themselves
  pub record Lender (S L : Known) (D : Duo S L) (n : ℕ) : Type 2 where
    pub offset : ℕ
    pub array : field_of L.ty 0 ≡ some (ty_array (ty_int w8) n, offset)
    pub numbers : D.row.Denot → List ℕ
    pub long : (h : D.row.Denot) (v : Val) → Is D.row h (v ∷ []) → length (numbers h) ≡ n
    pub part : (q : Share) (b o : ℕ) (h : D.row.Denot) (v : Val) → Is D.row h (v ∷ []) → ent 𝓤
        (sem 𝓛 (fat q (ty_struct D.name (tcons S.ty (tcons L.ty tnil))) b o (vstruct (vcons (S.val (D.first h)) (vcons (L.val (D.second h)) vnil)))))
        (Part 𝓤 (sem 𝓛 (bytes_at n q (numbers h) b (o + second_at S.ty L.ty + offset)))
        (sem 𝓛 (fat q (ty_struct D.name (tcons S.ty (tcons L.ty tnil))) b o (vstruct (vcons (S.val (D.first h)) (vcons (L.val (D.second h)) vnil))))))

  -- a struct of two fields, as a callee returns it
  pub record Pair (S N : Known) : Type 2 where
    pub row : RattleType
    pub name : Sym
    pub first : row.Denot → S.row.Denot
    pub second : row.Denot → N.row.Denot
    pub tells : Tells row (Is row) (λ r. vstruct (vcons (S.val (first r)) (vcons (N.val (second r)) vnil)) ∷ [])
    pub typed : (r : row.Denot) (v : Val) → Is row r (v ∷ []) → Holds (has_ty (ty_struct name (tcons S.ty (tcons N.ty tnil))) v) × WT v
    pub owed_first : (r : row.Denot) (v : Val) → Is row r (v ∷ []) → Is S.row (first r) (S.val (first r) ∷ [])
    pub owed_second : (r : row.Denot) (v : Val) → Is row r (v ∷ []) → Is N.row (second r) (N.val (second r) ∷ [])

  -- a struct of three
  pub record Trio (S L N : Known) : Type 2 where
    pub row : RattleType
    pub name : Sym
    pub first : row.Denot → S.row.Denot
    pub second : row.Denot → L.row.Denot
    pub third : row.Denot → N.row.Denot
    pub tells : Tells row (Is row) (λ r. vstruct (vcons (S.val (first r)) (vcons (L.val (second r)) (vcons (N.val (third r)) vnil))) ∷ [])
    pub typed : (r : row.Denot) (v : Val) → Is row r (v ∷ []) → Holds (has_ty (ty_struct name (tcons S.ty (tcons L.ty (tcons N.ty tnil)))) v) × WT v
    pub owed_first : (r : row.Denot) (v : Val) → Is row r (v ∷ []) → Is S.row (first r) (S.val (first r) ∷ [])
    pub owed_second : (r : row.Denot) (v : Val) → Is row r (v ∷ []) → Is L.row (second r) (L.val (second r) ∷ [])
    pub owed_third : (r : row.Denot) (v : Val) → Is row r (v ∷ []) → Is N.row (third r) (N.val (third r) ∷ [])
