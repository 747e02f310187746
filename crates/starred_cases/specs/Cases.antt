-- Document 01, "Station cases": "The starred twelve form one list with a single claim, shown of the definitions". The paper has thirteen
-- stars; all of them stand here, in its order.
use Rattle.std.specs.Prelude.{ℕ, ◌<◌, ◌≡◌, Bool, false, cond, List, [], ◌∷◌, eqb, length}
use Rattle.zynq7000.specs.Number as answer
use Rattle.zynq7000.specs.Slcr.{source_code}
use Rattle.zynq7000.specs.declared.qspi.Access.{Access}
use Rattle.zynq7000.specs.declared.qspi.Access.TheVariants.{Read, Write}
use Rattle.zynq7000.specs.declared.slcr.clocks.SrcSelIo.TheVariants.{IoPll}
use Rattle.zynq7000_hal.specs.Clocks.{rounded_up, quotient, calculate_answer, loopback_answer}
use Rattle.zynq7000_hal.specs.declared.clocks.Clocks.{Clocks}
use Rattle.qspi_script.specs.Answer.{number_of}
use Rattle.qspi_script.specs.declared.Status.TheVariants.{Done}
use Rattle.qspi_operation.specs.Machine.{Script, Result, count_in, called}
use Rattle.qspi_calls.specs.Calls as script

-- ---- the cases

-- the bytes of a call; where the paper says only how many, they are any
pub data Bytes : Type 0 where
  these : List ℕ → Bytes
  any : ℕ → Bytes

pub data Call : Type 0 where
  erase : ℕ → Call  -- at an address
  program : Bytes → ℕ → Call  -- at an address
  write_pages_call : Bytes → ℕ → Call  -- at an address
  read : ℕ → ℕ → Call  -- of so many bytes, at an address; READ (03)
  io_mode : Bool → Call  -- dual, or one flash

pub data Outcome : Type 0 where
  accepted : Outcome
  gives : ℕ → Outcome  -- a number of "What the input can bring on"
  sends : List ℕ → Outcome  -- words to TX data, 1C
  gives_with : ℕ → ℕ → Outcome  -- a number, with so many bytes programmed
  gets : ℕ → ℕ → Outcome  -- an offset, a word

pub data Case : Type 0 where
  case : Call → Outcome → Case
  interface : ℕ → ℕ → ℕ → Case  -- interface target; quotient and divisor
  loopback : ℕ → ℕ → Case  -- loopback target; divisor of the reference

abbrev pub starred : List Case
starred =
    -- "erase FE0000 accepted; FF0000 gives 1; 030000 sends 000003D8"
    case (erase 0xFE0000) accepted
    ∷ case (erase 0xFF0000) (gives 1)
    ∷ case (erase 0x030000) (sends (0x000003D8 ∷ []))
    -- "program 4 bytes DE AD BE EF at 000100 sends 00010002, EFBEADDE. 16 bytes at F0 accepted, 20 there give 5. .. 4 bytes at FFFFFB
    -- accepted, at FFFFFC give 1."
    ∷ case (program (these (0xDE ∷ 0xAD ∷ 0xBE ∷ 0xEF ∷ [])) 0x000100) (sends (0x00010002 ∷ 0xEFBEADDE ∷ []))
    ∷ case (program (any 16) 0xF0) accepted
    ∷ case (program (any 20) 0xF0) (gives 5)
    ∷ case (program (any 4) 0xFFFFFB) accepted
    ∷ case (program (any 4) 0xFFFFFC) (gives 1)
    -- "write_pages of 256 bytes at 40 gives 5 with 128 programmed"
    ∷ case (write_pages_call (any 256) 0x40) (gives_with 5 128)
    -- "read of 1 byte at 000102 sends 02010003 and one zero word"
    ∷ case (read 1 0x000102) (sends (0x02010003 ∷ 0 ∷ []))
    -- "interface target 5,000,000 gives quotient 40 and divisor 256 .. Loopback 7,936,508 gives 63"; document 02, U3: "become 64 and 128"
    ∷ interface 5_000_000 40 64
    ∷ loopback 7_936_508 63
    -- "io mode, one flash: A0 gets 01A002EB"
    ∷ case (io_mode false) (gets 0xA0 0x01A002EB)
    ∷ []

-- ---- the claim

-- the words that a log writes to an offset
abbrev pub words_to : ℕ → List Access → List ℕ
words_to at [] = []
words_to at (Read o v ∷ l) = words_to at l
words_to at (Write o v ∷ l) = cond (eqb o at) (v ∷ words_to at l) (words_to at l)

-- so ends every run, whatever its room and replies, that "What the state can bring on" (21 and above) does not end; and there is such a run
pub record Ends (c : Script) (P : Result → Type 0) : Type 0 where
  pub always : (room : ℕ) (replies : List ℕ) → number_of (called c room replies).answer < 21 → P (called c room replies)
  pub room : ℕ
  pub replies : List ℕ
  pub possible : number_of (called c room replies).answer < 21

-- "A refusal here, but for 4 and 5 from `write_pages`, makes no access": `gives` is one, whatever the room and the replies
abbrev pub Meets : Outcome → Script → Type 0
Meets accepted c = Ends c (λ r. (r.answer ≡ Done) × (0 < length r.log))
Meets (gives n) c =
    (room : ℕ) (replies : List ℕ)
    → (number_of (called c room replies).answer ≡ n) × ((called c room replies).log ≡ []) × (count_in (called c room replies).state ≡ 0)
Meets (sends ws) c = Ends c (λ r. (r.answer ≡ Done) × (words_to 0x1C r.log ≡ ws))
Meets (gives_with n count) c = Ends c (λ r. (number_of r.answer ≡ n) × (count_in r.state ≡ count))
Meets (gets o w) c = Ends c (λ r. (r.answer ≡ Done) × (words_to o r.log ≡ w ∷ []))

abbrev pub Each : Bytes → (List ℕ → Type 0) → Type 0
Each (these bs) P = P bs
Each (any n) P = (bs : List ℕ) → length bs ≡ n → P bs

abbrev pub Asked : Call → (Script → Type 0) → Type 0
Asked (erase a) P = P (script.erase_sector a)
Asked (program b a) P = Each b (λ bs. P (script.program a bs))
Asked (write_pages_call b a) P = Each b (λ bs. P (script.write_pages a bs))
Asked (read n a) P = P (script.read false false a n)
Asked (io_mode dual) P = P (script.enable_io_mode dual)

-- "I/O reference 1,000,000,000, .. cpu_1x 111,111,111"; the other clocks are free
pub record StatedClocks (c : Clocks) : Type 0 where
  pub io : c.io_ref_clk ≡ 1_000_000_000
  pub cpu : c.cpu_1x_clk ≡ 111_111_111

-- "reference target 200,000,000"; the values of a clock's answer: source, divisor of the reference, 1 with loopback or 0, baud rate divisor
abbrev pub Holds : Case → Type 0
Holds (case c o) = Asked c (Meets o)
Holds (interface target q divisor) =
    (c : Clocks) → StatedClocks c
    → (quotient c.io_ref_clk 200_000_000 target ≡ q)
    × (calculate_answer IoPll c 200_000_000 target ≡ answer.accepted (source_code IoPll ∷ rounded_up c.io_ref_clk 200_000_000 ∷ 0 ∷ divisor ∷ []))
Holds (loopback target divisor) =
    (c : Clocks) → StatedClocks c → loopback_answer IoPll c target ≡ answer.accepted (source_code IoPll ∷ divisor ∷ 1 ∷ 2 ∷ [])

-- the single claim is `AllHold starred`
abbrev pub AllHold : List Case → Type 0
AllHold [] = Unit {0}
AllHold (c ∷ l) = Holds c × AllHold l
