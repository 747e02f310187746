-- The names of the calls.
use Rattle.std.specs.Prelude.{ℕ, List, codes}
use Rattle.trial_calls.specs.declared.call.Call.{Call}
use Rattle.trial_calls.specs.declared.call.Call.TheVariants as call

-- the Rust's name
abbrev pub call_name : Call → List ℕ
call_name call.Initialize = codes "initialize"
call_name call.EnableLinearAddressing = codes "enable_linear_addressing"
call_name call.EnableIoMode = codes "enable_io_mode"
call_name call.Disable = codes "disable"
call_name call.WriteEnable = codes "write_enable"
call_name call.WriteDisable = codes "write_disable"
call_name call.ClearStatus = codes "clear_status"
call_name call.WriteStatus = codes "write_status"
call_name call.WriteStatusAndConfigRegister = codes "write_status_and_config_register"
call_name call.ReadStatusRegister1 = codes "read_status_register_1"
call_name call.ReadConfigurationRegister = codes "read_configuration_register"
call_name call.ReadRdidBase = codes "read_rdid_base"
call_name call.ReadRdidExtended = codes "read_rdid_extended"
call_name call.New = codes "new"
call_name call.SetWriteProtection = codes "set_write_protection"
call_name call.EraseSector = codes "erase_sector"
call_name call.Program = codes "program"
call_name call.WritePages = codes "write_pages"
call_name call.ReadPageRead = codes "read_page_read"
call_name call.ReadFastRead = codes "read_fast_read"
call_name call.ReadFastReadDummy = codes "read_fast_read_dummy"
call_name call.EraseSectors = codes "erase_sectors"
