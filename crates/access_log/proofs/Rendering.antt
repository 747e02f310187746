-- The loop that renders a log: the lines so far stand in the buffer, and the text from here on is still to come. Assumes nothing.
use Rattle.std.specs.Prelude.{Some, None, Ok}
use Rattle.access_log.specs.Log.{Entry, bad_at}
use Rattle.std.proofs.Common.{◌≡◌, ℕ, suc, ◌+◌, ◌-◌, ◌*◌, ◌%◌, ◌^◌, ◌<◌, ◌≤◌, Bool, true, false, List, [], ◌++◌, length, sym, refl, ap, ◌∙◌, subst, append-nil, add-one, arith}
use Rattle.zynq7000.specs.declared.qspi.Access.{Access}
use Rattle.access_log.specs.Text.{line_of, bad_line, text_of, all_accesses, written, over}
use Rattle.access_log.proofs.Buffer.{Grown, grown_none, grown_more, grown_length, grown_all}
use Rattle.access_log.proofs.Lines.{line_length, bad_most}
use Rattle.access_log.proofs.Stream.{text_none, all_none, text_access, text_end, text_bad, all_access, all_end, all_bad}

-- the records below `at` are rendered
pub record Rendering (entries : ℕ → Entry) (first : ℕ) (before out : List ℕ) (at : ℕ) : Type 0 where
  pub within : at ≤ 512
  pub grown : Grown before out (at * 14) (text_of 512 entries first 0) (text_of (512 - at) entries first at)
  pub all : all_accesses 512 entries 0 ≡ all_accesses (512 - at) entries at

-- what `render` promises of the buffer, the length and whether there is more
abbrev pub Result : (ℕ → Entry) → ℕ → List ℕ → List ℕ → ℕ → Bool → Type 0
Result entries first before out len more =
    (out ≡ over (text_of 512 entries first 0) before)
    × ((len ≡ length (text_of 512 entries first 0)) × (more ≡ all_accesses 512 entries 0))

pub starts : (entries : ℕ → Entry) (first : ℕ) (out : List ℕ) → Rendering entries first out out 0
starts entries first out = record { within = omega arith; grown = grown_none out (text_of 512 entries first 0); all = refl }

module _ (entries : ℕ → Entry) (first : ℕ) (before out : List ℕ) (at : ℕ) (r : Rendering entries first before out at) where
  one_more : at < 512 → 512 - at ≡ suc (512 - (at + 1))
  one_more h = omega arith

  -- what is to come, at a place whose text is known
  next : at < 512 → (text : List ℕ) → text_of (suc (512 - (at + 1))) entries first at ≡ text
      → Grown before out (at * 14) (text_of 512 entries first 0) text
  next h text e =
      subst (λ (l : List ℕ). Grown before out (at * 14) (text_of 512 entries first 0) l)
      (ap (λ (n : ℕ). text_of n entries first at) (one_more h) ∙ e) r.grown

  next_all : at < 512 → (b : Bool) → all_accesses (suc (512 - (at + 1))) entries at ≡ b → all_accesses 512 entries 0 ≡ b
  next_all h b e = r.all ∙ (ap (λ (n : ℕ). all_accesses n entries at) (one_more h) ∙ e)

  done : (len : ℕ) (end : List ℕ) (more : Bool) → Grown before end len (text_of 512 entries first 0) [] → all_accesses 512 entries 0 ≡ more
      → Result entries first before end len more
  done len end more g e =
      (grown_all before end len (text_of 512 entries first 0) g, (grown_length before end len (text_of 512 entries first 0) g, sym e))

  pub goes_on : at < 512 → 7200 ≤ length out → (a : Access) → entries at ≡ Some (Ok a)
      → Rendering entries first before (written out (at * 14) (line_of a)) (at + 1)
  goes_on h room a e =
      let rest : List ℕ = text_of (512 - (at + 1)) entries first (at + 1) in
      let text : text_of (suc (512 - (at + 1))) entries first at ≡ line_of a ++ rest =
      text_access (512 - (at + 1)) entries first at a e ∙ ap (λ (n : ℕ). line_of a ++ text_of (512 - (at + 1)) entries first n) (sym (add-one at)) in
      let fits : at * 14 + length (line_of a) ≤ length out = omega (arith, line_length a) in
      let place : at * 14 + length (line_of a) ≡ (at + 1) * 14 = omega (arith, line_length a) in
      record {
        within = omega arith;
        grown =
            subst (λ (n : ℕ). Grown before (written out (at * 14) (line_of a)) n (text_of 512 entries first 0) rest) place
            (grown_more before out (at * 14) (text_of 512 entries first 0) (line_of a) rest fits (next h (line_of a ++ rest) text));
        all =
            next_all h (all_accesses (512 - (at + 1)) entries (at + 1))
            (all_access (512 - (at + 1)) entries at a e ∙ ap (λ (n : ℕ). all_accesses (512 - (at + 1)) entries n) (sym (add-one at)));
      }

  pub stops_at_end : at < 512 → entries at ≡ None → Result entries first before out (at * 14) false
  stops_at_end h e =
      done (at * 14) out false (next h [] (text_end (512 - (at + 1)) entries first at e))
      (next_all h false (all_end (512 - (at + 1)) entries at e))

  pub stops_at_bad : at < 512 → 7200 ≤ length out → (k n : ℕ) → entries at ≡ bad_at k → n ≡ (first + k) % 2 ^ 64
      → Result entries first before (written out (at * 14) (bad_line n)) (at * 14 + length (bad_line n)) false
  stops_at_bad h room k n e number =
      let text : text_of (suc (512 - (at + 1))) entries first at ≡ bad_line n ++ [] =
      text_bad (512 - (at + 1)) entries first at k e ∙ (ap bad_line (sym number) ∙ sym (append-nil (bad_line n))) in
      let fits : at * 14 + length (bad_line n) ≤ length out = omega (arith, bad_most n) in
      done (at * 14 + length (bad_line n)) (written out (at * 14) (bad_line n)) false
      (grown_more before out (at * 14) (text_of 512 entries first 0) (bad_line n) [] fits (next h (bad_line n ++ []) text))
      (next_all h false (all_bad (512 - (at + 1)) entries at k e))

  pub stops_at_most : 512 ≤ at → Result entries first before out 7168 true
  stops_at_most h =
      let none : 512 - at ≡ 0 = omega arith in
      let place : at * 14 ≡ 7168 = omega (arith, r.within) in
      let text : text_of (512 - at) entries first at ≡ [] = ap (λ (n : ℕ). text_of n entries first at) none ∙ text_none entries first at in
      let g : Grown before out (at * 14) (text_of 512 entries first 0) [] =
      subst (λ (l : List ℕ). Grown before out (at * 14) (text_of 512 entries first 0) l) text r.grown in
      done 7168 out true (subst (λ (n : ℕ). Grown before out n (text_of 512 entries first 0) []) place g)
      (r.all ∙ (ap (λ (n : ℕ). all_accesses n entries at) none ∙ all_none entries at))
