-- The names of the calls.
use Rattle.std.specs.Prelude.{ℕ, List, [], ◌∷◌, Option, codes, find}
use Rattle.std.specs.Str.{bytes_eq}
use Rattle.sim_report.specs.declared.call.Call.{Call}
use Rattle.sim_report.specs.declared.call.Call.TheVariants as call

-- the Rust's name
abbrev pub call_name : Call → List ℕ
call_name call.WriteEnable = codes "write_enable"
call_name call.WriteDisable = codes "write_disable"
call_name call.ClearStatus = codes "clear_status"
call_name call.Disable = codes "disable"
call_name call.ReadStatusRegister1 = codes "read_status_register_1"
call_name call.ReadConfigurationRegister = codes "read_configuration_register"
call_name call.ReadRdidBase = codes "read_rdid_base"
call_name call.ReadRdidExtended = codes "read_rdid_extended"
call_name call.EraseSector = codes "erase_sector"
call_name call.Program = codes "program"
call_name call.WritePages = codes "write_pages"
call_name call.ReadPageRead = codes "read_page_read"
call_name call.ReadFastRead = codes "read_fast_read"
call_name call.EraseSectors = codes "erase_sectors"

-- in the order of the declaration
abbrev pub all_calls : List Call
all_calls = call.WriteEnable ∷ call.WriteDisable ∷ call.ClearStatus ∷ call.Disable ∷ call.ReadStatusRegister1 ∷ call.ReadConfigurationRegister
    ∷ call.ReadRdidBase ∷ call.ReadRdidExtended ∷ call.EraseSector ∷ call.Program ∷ call.WritePages ∷ call.ReadPageRead ∷ call.ReadFastRead
    ∷ call.EraseSectors ∷ []

-- the call of a name
abbrev pub call_named : List ℕ → Option Call
call_named name = find (λ call. bytes_eq (call_name call) name) all_calls
