-- What an exported function answers, as numbers: document 01's number of the answer, 0 where the call is done, and the used counts.
use Rattle.std.specs.Prelude.{ℕ, ◌+◌, ◌*◌, ◌/◌, ◌≡◌, List, length, get_or}
use Rattle.zynq7000.specs.Number.{Answer}
use Rattle.zedboard_bsp.specs.DeviceId.{code_answer, interface_codes, density_codes, sector_codes}
use Rattle.qspi_script.specs.Answer.{Said, Answered, number_in, or_else, values_in}
use Rattle.qspi_operation.specs.declared.Op.{Op}
use Rattle.qspi_operation.specs.Machine.{Script, called}
use Rattle.qspi_operation.specs.Points.{answered_of}
use Rattle.qspi_calls.specs.Begins.{Begins, BeginsInto}
use Rattle.qspi_calls.specs.Promise.{one_of, logged_of, buffered_of}
use Rattle.qspi_abi.specs.declared.QspiRan.{QspiRan}
use Rattle.qspi_abi.specs.declared.QspiPagesRan.{QspiPagesRan}
use Rattle.qspi_abi.specs.declared.QspiSectorsRan.{QspiSectorsRan}
use Rattle.qspi_abi.specs.declared.QspiValueRan.{QspiValueRan}
use Rattle.qspi_abi.specs.declared.QspiIdRan.{QspiIdRan}
use Rattle.qspi_abi.specs.declared.QspiLongIdRan.{QspiLongIdRan}
use Rattle.qspi_abi.specs.declared.QspiClockConfig.{QspiClockConfig}
use Rattle.qspi_abi.specs.declared.QspiPreset.{QspiPreset}

-- 01's number of an answer, 0 only where the call is done. A call that goes on has none; it would have this one, and no run ends so (`ends` of `OnRun`)
abbrev pub going_on : ℕ
going_on = 0xFFFFFFFF

abbrev pub answer_number : Said → ℕ
answer_number s = or_else (number_in s) going_on

abbrev pub ran : Answered → QspiRan
ran a = record { answer = answer_number a.says; used = a.used; replies = a.replies }

-- with the value of the answer; 0 where it has none
abbrev pub with_value : Answered → ℕ → QspiValueRan
with_value a v = record { answer = answer_number a.says; value = v; used = a.used; replies = a.replies }

abbrev pub valued : Answered → QspiValueRan
valued a = with_value a (one_of (values_in a.says))

abbrev pub pages : Answered → QspiPagesRan
pages a = record { answer = answer_number a.says; programmed = a.counted; used = a.used; replies = a.replies }

-- with a place: that of the entry that a list was refused for, 0 where there is none
abbrev pub with_place : Answered → ℕ → QspiSectorsRan
with_place a v = record { answer = answer_number a.says; place = v; finished = a.counted; used = a.used; replies = a.replies }

abbrev pub sectors : Answered → QspiSectorsRan
sectors a = with_place a (one_of (values_in a.says))

-- the byte at a place of an id
abbrev pub byte_at : List ℕ → ℕ → ℕ
byte_at bs i = get_or bs i 0

-- "manufacturer, memory interface type, density": the device id is the last two, high byte first
abbrev pub with_id : Answered → List ℕ → QspiIdRan
with_id a bs =
    record {
      answer = answer_number a.says;
      manufacturer_id = byte_at bs 0;
      device_id = byte_at bs 1 * 256 + byte_at bs 2;
      memory_interface_type = (code_answer interface_codes (byte_at bs 1)).number;
      density = (code_answer density_codes (byte_at bs 2)).number;
      used = a.used;
      replies = a.replies;
    }

abbrev pub identified : Answered → QspiIdRan
identified a = with_id a (values_in a.says)

-- then the length of the rest, the sector architecture, the family and the model number, high byte first
abbrev pub with_long_id : Answered → List ℕ → QspiLongIdRan
with_long_id a bs =
    record {
      answer = answer_number a.says;
      manufacturer_id = byte_at bs 0;
      device_id = byte_at bs 1 * 256 + byte_at bs 2;
      memory_interface_type = (code_answer interface_codes (byte_at bs 1)).number;
      density = (code_answer density_codes (byte_at bs 2)).number;
      id_cfi_len = byte_at bs 3;
      sector_arch_raw = byte_at bs 4;
      sector_arch = (code_answer sector_codes (byte_at bs 4)).number;
      family_id = byte_at bs 5;
      model_number = byte_at bs 6 * 256 + byte_at bs 7;
      used = a.used;
      replies = a.replies;
    }

abbrev pub identified_at_length : Answered → QspiLongIdRan
identified_at_length a = with_long_id a (values_in a.says)

-- the values of a clock configuration in their order, zeros where it is refused
abbrev pub clock_config : Answer → QspiClockConfig
clock_config a =
    record {
      answer = a.number;
      src_sel = get_or a.values 0 0;
      ref_clk_div = get_or a.values 1 0;
      loopback = get_or a.values 2 0;
      baud_rate_divisor = get_or a.values 3 0;
    }

abbrev pub linear_config : Answer → QspiPreset
linear_config a = record { answer = a.number; value = get_or a.values 0 0 }

-- ---- what the functions that exports share promise: of whatever call the operation begins, its run in numbers, and the lent memory

abbrev pub Commands : Op → List ℕ → List ℕ → QspiRan → List ℕ → Type 0
Commands o log replies r log₁ = (c : Script) → Begins (length log) c o → (r ≡ ran (answered_of (called c (length log / 2) replies))) × (log₁ ≡ logged_of (called c (length log / 2) replies) log)

abbrev pub Gives : Op → List ℕ → List ℕ → QspiValueRan → List ℕ → Type 0
Gives o log replies r log₁ = (c : Script) → Begins (length log) c o → (r ≡ valued (answered_of (called c (length log / 2) replies))) × (log₁ ≡ logged_of (called c (length log / 2) replies) log)

abbrev pub Reads : Op → List ℕ → List ℕ → List ℕ → QspiRan → List ℕ → List ℕ → Type 0
Reads o buffer log replies r buffer₁ log₁ =
    (c : Script) → BeginsInto (length buffer) (length log) c o
    → (r ≡ ran (answered_of (called c (length log / 2) replies)))
    × ((log₁ ≡ logged_of (called c (length log / 2) replies) log) × (buffer₁ ≡ buffered_of (called c (length log / 2) replies) buffer))
