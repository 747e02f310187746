-- The numbers of the papers that bound an address, a length and a list: document 01, "What the input can bring on" and "One transfer, access by access"; document 02, U1. Each stands
-- here, and everywhere else by its name.
use Rattle.std.specs.Prelude.{ℕ, ◌-◌, ◌*◌, ◌/◌, ◌%◌, Bool}
use Rattle.zynq7000.specs.Bits.{flag_value}

-- rule 1: "addr + 65,536, or addr + length, above 16,777,215"
abbrev pub last_end : ℕ
last_end = 16777215

-- rules 1 and 2: "addr not a multiple of 65,536"; the flash's "64 KiB sector"
abbrev pub sector_size : ℕ
sector_size = 65536

-- the byte that stands for a sector in a list, and where that sector begins
abbrev pub sector_number : ℕ → ℕ
sector_number a = a / sector_size % 256

abbrev pub sector_start : ℕ → ℕ
sector_start n = n * sector_size

-- "a list of up to 256 sector addresses"
abbrev pub longest_list : ℕ
longest_list = 256

-- rule 3: "over 240 bytes"
abbrev pub max_data_bytes_per_write : ℕ
max_data_bytes_per_write = 240

-- rule 5: "addr mod 256 plus length above 256"
abbrev pub page_size : ℕ
page_size = 256

-- "`write_pages` .. cuts into 128 bytes and calls program"
abbrev pub recommended_program_page_size : ℕ
recommended_program_page_size = 128

-- "A read goes in chunks of 248 bytes, 247 with a dummy byte"
abbrev pub largest_chunk : Bool → ℕ
largest_chunk dummy = 248 - flag_value dummy

-- rule 10: "addr + length above 4,294,967,296"
abbrev pub address_span : ℕ
address_span = 4294967296
