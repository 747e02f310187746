-- How a test came out, as a branch of a walk tells it. Assumes nothing.
use mathlib.Core.Path.{◌≡◌, refl}
use mathlib.Core.Bool.{Bool, true, false, not}
use lib.Dec.{T as Holds}

pub holds : (y : Bool) → Holds y → y ≡ true
holds true z = refl
holds false z = absurd z

pub fails : (y : Bool) → Holds (not y) → y ≡ false
fails true z = absurd z
fails false z = refl
