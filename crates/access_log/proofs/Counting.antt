-- What the loop of `accesses` keeps, in numbers and lists. Assumes nothing.
use Rattle.std.proofs.Common.{◌≡◌, ℕ, suc, ◌+◌, ◌-◌, ◌<◌, true, false, List, length, refl, sym, ap, ◌∙◌, add-one, arith}
use Rattle.access_log.specs.Log.{is_access, entry_at}
use Rattle.access_log.specs.Reader.{first_other, accesses_in}
use Rattle.access_log.proofs.Leading.{first_on, first_stops}
use Rattle.access_log.proofs.Finding.{access_within}

-- `n` accesses are counted; the reader stands at `n`
module _ (log : List ℕ) (n : ℕ) (left : first_other (length log - n) (entry_at log) n ≡ accesses_in log) where
  module _ (e : is_access (entry_at log n) ≡ true) where
    pub below : n < length log
    below = omega (arith, access_within log n (entry_at log n) refl e)

    pub left_on : first_other (length log - (n + 1)) (entry_at log) (n + 1) ≡ accesses_in log
    left_on =
        let one_fewer : length log - n ≡ suc (length log - (n + 1)) = omega (arith, below) in
        ap (first_other (length log - (n + 1)) (entry_at log)) (add-one n)
        ∙ (sym (first_on (entry_at log) (length log - (n + 1)) n e)
        ∙ (ap (λ (k : ℕ). first_other k (entry_at log) n) (sym one_fewer) ∙ left))

  pub ends : is_access (entry_at log n) ≡ false → n ≡ accesses_in log
  ends e = sym (first_stops (entry_at log) (length log - n) n e) ∙ left
