-- The ids that RDID returns, after the Rust file `zedboard-bsp/src/qspi_spansion.rs`, and refusal 11 of document 01: "byte not listed in
-- the Rust; the byte is returned".
use Rattle.std.specs.Prelude.{ℕ, ◌/◌, ◌%◌, Bool, false, cond, ◌||◌, List, [], ◌∷◌, ◌++◌, eqb, take, drop, Result, Ok, Err}
use Rattle.zynq7000.specs.Number.{Answer, accepted, refused_with}
use Rattle.zynq7000.specs.Number as number_of_lem
use Rattle.zedboard_bsp.specs.Words.{bytes_of}
use Rattle.zedboard_bsp.specs.declared.qspi_spansion.device_id.BaseDeviceId.{BaseDeviceId}
use Rattle.zedboard_bsp.specs.declared.qspi_spansion.device_id.ExtendedDeviceId.{ExtendedDeviceId}
use Rattle.zedboard_bsp.specs.declared.qspi_spansion.device_id.UnknownCode.{UnknownCode}
use Rattle.zedboard_bsp.specs.declared.qspi_spansion.device_id.MemoryInterfaceType.{MemoryInterfaceType}
use Rattle.zedboard_bsp.specs.declared.qspi_spansion.device_id.MemoryInterfaceType.TheVariants as interface
use Rattle.zedboard_bsp.specs.declared.qspi_spansion.device_id.Density.{Density}
use Rattle.zedboard_bsp.specs.declared.qspi_spansion.device_id.Density.TheVariants as density
use Rattle.zedboard_bsp.specs.declared.qspi_spansion.device_id.SectorArchictecture.{SectorArchictecture}
use Rattle.zedboard_bsp.specs.declared.qspi_spansion.device_id.SectorArchictecture.TheVariants as sector

-- ---- the bytes of an id, in the order that the device sends them

-- manufacturer, memory interface type, density: the device id is the last two, high byte first
abbrev pub base_bytes : BaseDeviceId → List ℕ
base_bytes i = i.manufacturer_id ∷ i.device_id / 256 ∷ i.device_id % 256 ∷ []

-- then the length of the rest, the sector architecture, the family and the model number
abbrev pub extended_bytes : ExtendedDeviceId → List ℕ
extended_bytes i = base_bytes i.base ++ (i.id_cfi_len ∷ i.sector_arch ∷ i.family_id ∷ i.model_number)

-- "one reply, its bytes 1 to 3"
abbrev pub reply_bytes : ℕ → List ℕ
reply_bytes reply = drop 1 (bytes_of reply)

-- "bytes 1 to 8 of three replies"
abbrev pub long_reply_bytes : ℕ → ℕ → ℕ → List ℕ
long_reply_bytes first second third = take 8 (drop 1 (bytes_of first ++ bytes_of second ++ bytes_of third))

-- ---- codes

abbrev pub interface_code : MemoryInterfaceType → ℕ
interface_code interface._128Mb = 0x20
interface_code interface._256Mb = 0x02

abbrev pub density_code : Density → ℕ
density_code density._128Mb = 0x18
density_code density._256Mb = 0x19

abbrev pub sector_code : SectorArchictecture → ℕ
sector_code sector.Uniform = 0x00
sector_code sector.Hybrid = 0x01

-- an answer in 01's terms: 0 and the code, or 11 and the byte
abbrev pub interface_answer : Result MemoryInterfaceType UnknownCode → Answer
interface_answer (Ok t) = accepted (interface_code t ∷ [])
interface_answer (Err e) = refused_with number_of_lem.UnknownCode (e.0 ∷ [])

abbrev pub density_answer : Result Density UnknownCode → Answer
density_answer (Ok d) = accepted (density_code d ∷ [])
density_answer (Err e) = refused_with number_of_lem.UnknownCode (e.0 ∷ [])

abbrev pub sector_answer : Result SectorArchictecture UnknownCode → Answer
sector_answer (Ok s) = accepted (sector_code s ∷ [])
sector_answer (Err e) = refused_with number_of_lem.UnknownCode (e.0 ∷ [])

abbrev pub is_listed : List ℕ → ℕ → Bool
is_listed [] b = false
is_listed (c ∷ cs) b = eqb b c || is_listed cs b

-- rule 11: what a byte is answered by, with the codes that are listed
abbrev pub code_answer : List ℕ → ℕ → Answer
code_answer codes b = cond (is_listed codes b) (accepted (b ∷ [])) (refused_with number_of_lem.UnknownCode (b ∷ []))

abbrev pub interface_codes : List ℕ
interface_codes = interface_code interface._128Mb ∷ interface_code interface._256Mb ∷ []

abbrev pub density_codes : List ℕ
density_codes = density_code density._128Mb ∷ density_code density._256Mb ∷ []

abbrev pub sector_codes : List ℕ
sector_codes = sector_code sector.Uniform ∷ sector_code sector.Hybrid ∷ []
