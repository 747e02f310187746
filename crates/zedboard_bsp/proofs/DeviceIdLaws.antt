-- An id's fields hold the bytes of its replies: two bytes of which one is the higher part of a number are read back from it. Assumes nothing.
use Prim.Native.Nat.{ℕ, ◌+◌, ◌*◌, ◌/◌, ◌%◌, ◌^◌}
use mathlib.Core.Path.{◌≡◌, ap, ◌∙◌}
use mathlib.Core.List.{List, [], ◌∷◌, ◌++◌}
use native.Mathlib.Omega.{arith}
use lib.ListN.{get_or}
use Rattle.zedboard_bsp.specs.Words.{bytes_of}
use Rattle.zedboard_bsp.specs.DeviceId.{base_bytes, reply_bytes, long_reply_bytes}
use Rattle.zedboard_bsp.specs.declared.qspi_spansion.device_id.BaseDeviceId.{BaseDeviceId}

pub base_of_reply : (i : BaseDeviceId) (raw : List ℕ) (reply : ℕ) → raw ≡ bytes_of reply
    → i.manufacturer_id ≡ get_or raw 1 0
    → i.device_id ≡ get_or raw 2 0 * 256 + get_or raw 3 0
    → base_bytes i ≡ reply_bytes reply
base_of_reply i raw reply e m d =
    let maker : i.manufacturer_id ≡ reply / 2 ^ 8 % 256 = m ∙ ap (λ (l : List ℕ). get_or l 1 0) e in
    let device : i.device_id ≡ reply / 2 ^ 16 % 256 * 256 + reply / 2 ^ 24 % 256 = d ∙ ap (λ (l : List ℕ). get_or l 2 0 * 256 + get_or l 3 0) e in
    let high : i.device_id / 256 ≡ reply / 2 ^ 16 % 256 = omega arith in
    let low : i.device_id % 256 ≡ reply / 2 ^ 24 % 256 = omega arith in
    rw (maker, high, low)

pub extended_of_replies : (base middle last : List ℕ) (first second third : ℕ) → base ≡ reply_bytes first
    → middle ≡ bytes_of second
    → last ≡ bytes_of third
    → base ++ (get_or middle 0 0 ∷ get_or middle 1 0 ∷ get_or middle 2 0 ∷ get_or middle 3 0 ∷ get_or last 0 0 ∷ []) ≡ long_reply_bytes first second third
extended_of_replies base middle last first second third e f g = rw (e, f, g)

-- "bytes 1 to 3": the device id is the second of them times 256, plus the third
pub device_id_of : (i : BaseDeviceId) (reply : ℕ) → base_bytes i ≡ reply_bytes reply
    → i.device_id ≡ reply / 2 ^ 16 % 256 * 256 + reply / 2 ^ 24 % 256
device_id_of i reply e =
    let high : i.device_id / 256 ≡ reply / 2 ^ 16 % 256 = ap (λ (l : List ℕ). get_or l 1 0) e in
    let low : i.device_id % 256 ≡ reply / 2 ^ 24 % 256 = ap (λ (l : List ℕ). get_or l 2 0) e in
    omega arith
