-- More than the room that is left is more than the whole, with what stands before. Assumes nothing.
use mathlib.Core.Path.{◌≡◌, refl, sym}
use mathlib.Core.Bool.{Bool, true, false}
use Prim.Native.Nat.{ℕ, ◌+◌, ◌-◌, ◌≤◌}
use native.Mathlib.Omega.{arith}
use lib.Dec.{ltb}
use borrow.Author.Tests.{ltb-true, ltb-false, lt-ltb, le-ltb}

pub room_left : (whole before n : ℕ) → before ≤ whole → ltb (whole - before) n ≡ ltb whole (before + n)
room_left whole before n h = go (ltb (whole - before) n) refl
  where
    go : (b : Bool) → ltb (whole - before) n ≡ b → b ≡ ltb whole (before + n)
    go true e = sym (lt-ltb whole (before + n) (omega (arith, ltb-true (whole - before) n e)))
    go false e = sym (le-ltb whole (before + n) (omega (arith, ltb-false (whole - before) n e)))
