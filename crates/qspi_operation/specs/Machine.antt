-- A call over lists, to be read beside document 01's "One transfer, access by access": what a call does is a list of actions, and what it
-- does after them is decided by the replies. Where it stands is the list of actions left, not a count of words sent and replies taken, as in
-- the code; proofs/Tied of qspi_calls shows that the steps of the code do the same.
use Rattle.std.specs.Prelude.{ℕ, zero, suc, ◌+◌, Bool, true, false, cond, List, [], ◌∷◌, ◌++◌, map, reverse, length, drop}
use Rattle.zynq7000.specs.Access.{value_word}
use Rattle.zynq7000.specs.declared.qspi.Access.{Access}
use Rattle.zynq7000.specs.declared.qspi.Access.TheVariants as access
use Rattle.qspi_transfer.specs.Wire.{waits}
use Rattle.qspi_transfer.specs.LowLevel.{chip_select_high, chip_select_low, started}
use Rattle.qspi_script.specs.declared.Status.{Status}
use Rattle.qspi_script.specs.declared.Status.TheVariants.{Going, RepliesEnded, LogFull}

-- ---- actions

pub data Action : Type 0 where
  write : ℕ → ℕ → Action  -- a value to an offset
  modify : (ℕ → ℕ) → Action  -- "`modify_config` is one read of 00 and one write of 00"
  drain : Action  -- "read 04 and, while bit 4 is set, read 20 and then 04 again"
  reply : Bool → Action  -- a reply, after one status read with bit 4 set, or after two in a row

-- where an action stands
pub data Midway : Type 0 where
  first : Midway  -- at its beginning, or again at the status read
  full : Midway  -- a word waits, to be read and dropped
  changed : ℕ → Midway  -- config was read; the word to write
  again : Midway  -- the second status read
  ready : Midway  -- the reply can be taken

-- what is due: a read of an offset, a write of a value to one, or nothing
pub data Want : Type 0 where
  reads : ℕ → Want
  writes : ℕ → ℕ → Want
  nothing : Want

abbrev pub want_at : Midway → Action → Want
want_at first (write o v) = writes o v
want_at first (modify f) = reads 0x00
want_at first drain = reads 0x04
want_at first (reply twice) = reads 0x04
want_at full a = reads 0x20
want_at (changed w) a = writes 0x00 w
want_at again a = reads 0x04
want_at ready a = reads 0x20

-- an access was made: the action goes on, or it is over, or it is over with a reply
pub data Progress : Type 0 where
  stays : Midway → Progress
  over : Progress
  takes : ℕ → Progress

abbrev pub progress : Midway → Action → ℕ → Progress
progress first (write o v) x = over
progress first (modify f) x = stays (changed (f x))
progress first drain x = cond (waits x) (stays full) over
progress first (reply twice) x = cond (waits x) (stays (cond twice again ready)) (stays first)
progress full a x = stays first
progress (changed w) a x = over
progress again a x = cond (waits x) (stays ready) (stays first)
progress ready a x = takes x

-- ---- a transfer

pub record Transfer : Type 0 where
  pub port : ℕ  -- the offset of its TX register
  pub command : ℕ  -- the command word
  pub further : List ℕ  -- the words after it
  pub replies : ℕ  -- how many replies it takes
  pub twice : Bool  -- each after two status reads in a row

abbrev pub replicate : ℕ → Action → List Action
replicate zero a = []
replicate (suc n) a = a ∷ replicate n a

-- "Closing: set bit 10; write 0 to 14."
abbrev pub closing : List Action
closing = modify chip_select_high ∷ write 0x14 0 ∷ []

-- "Start: set bit 16.", and the replies
abbrev pub replying : Transfer → List Action
replying x = modify started ∷ replicate x.replies (reply x.twice) ++ closing

-- "clear bit 10 of config; write 1 to 14", and the words
abbrev pub opening : Transfer → List Action
opening x = modify chip_select_low ∷ write 0x14 1 ∷ map (write x.port) (x.command ∷ x.further) ++ replying x

-- ---- a call

pub data Script : Type 0 where
  -- the call ends with a status and the values of its answer
  ends : Status → List ℕ → Script
  -- actions, the bytes that their replies bring for the lent buffer, and what the replies decide
  perform : Action → List Action → (List ℕ → List ℕ) → (List ℕ → Script) → Script
  -- the same actions again while their replies say so
  repeats : Action → List Action → (List ℕ → Bool) → (List ℕ → Script) → Script
  -- so many bytes more are programmed: "whose bytes the answer counts"
  counts : ℕ → Script → Script

abbrev pub none : List ℕ → List ℕ
none rs = []

-- a transfer, from its opening: "read 04 and, while bit 4 is set, .."
abbrev pub exchange : Transfer → (List ℕ → Script) → Script
exchange x k = perform drain (opening x) none k

pub data State : Type 0 where
  -- where the action at hand stands, the actions left, the replies taken of them (the newest first), what they bring, what comes then,
  -- the bytes brought before, and the count of bytes programmed
  going : Midway → Action → List Action → List ℕ → (List ℕ → List ℕ) → (List ℕ → Script) → List ℕ → ℕ → State
  ended : Status → List ℕ → List ℕ → ℕ → State  -- status, values, bytes brought, count of bytes programmed

abbrev pub onward : Bool → Script → Script → Script
onward true s t = s
onward false s t = t

abbrev pub begin : Script → List ℕ → ℕ → State
begin (ends a vs) bs n = ended a vs bs n
begin (perform a l brings k) bs n = going first a l [] brings k bs n
begin (repeats a l still k) bs n = going first a l [] none (λ rs. onward (still rs) (repeats a l still k) (k rs)) bs n
begin (counts j s) bs n = begin s bs (n + j)

abbrev pub proceed : List Action → List ℕ → (List ℕ → List ℕ) → (List ℕ → Script) → List ℕ → ℕ → State
proceed [] taken brings k bs n = begin (k (reverse taken)) (bs ++ brings (reverse taken)) n
proceed (a ∷ l) taken brings k bs n = going first a l taken brings k bs n

abbrev pub moves : Progress → Action → List Action → List ℕ → (List ℕ → List ℕ) → (List ℕ → Script) → List ℕ → ℕ → State
moves (stays m) a l taken brings k bs n = going m a l taken brings k bs n
moves over a l taken brings k bs n = proceed l taken brings k bs n
moves (takes v) a l taken brings k bs n = proceed l (v ∷ taken) brings k bs n

abbrev pub want : State → Want
want (going m a l taken brings k bs n) = want_at m a
want (ended a vs bs n) = nothing

-- the call after an access of a value
abbrev pub next : State → ℕ → State
next (going m a l taken brings k bs n) v = moves (progress m a v) a l taken brings k bs n
next (ended a vs bs n) v = ended a vs bs n

abbrev pub status_in : State → Status
status_in (going m a l taken brings k bs n) = Going
status_in (ended a vs bs n) = a

abbrev pub values_in : State → List ℕ
values_in (going m a l taken brings k bs n) = []
values_in (ended a vs bs n) = vs

-- the bytes brought for the lent buffer
abbrev pub bytes_in : State → List ℕ
bytes_in (going m a l taken brings k bs n) = bs ++ brings (reverse taken)
bytes_in (ended a vs bs n) = bs

-- the bytes programmed so far
abbrev pub count_in : State → ℕ
count_in (going m a l taken brings k bs n) = n
count_in (ended a vs bs n) = n

-- ---- a run

pub record Result : Type 0 where
  pub log : List Access
  pub answer : Status
  pub state : State  -- where the call stands
  pub room : ℕ  -- for how many accesses there is room left
  pub unread : List ℕ  -- the replies left

abbrev pub halt : Status → State → ℕ → List ℕ → Result
halt a s n rs = record { log = []; answer = a; state = s; room = n; unread = rs }

abbrev pub logging : Access → Result → Result
logging a r = record { log = a ∷ r.log; answer = r.answer; state = r.state; room = r.room; unread = r.unread }

-- 24 where an access is due and there is no room
abbrev pub no_room : Want → State → List ℕ → Result
no_room nothing s rs = halt (status_in s) s 0 rs
no_room (reads o) s rs = halt LogFull s 0 rs
no_room (writes o v) s rs = halt LogFull s 0 rs

-- 23 where a read is due and there is no reply
abbrev pub made : Want → State → ℕ → List ℕ → (State → List ℕ → Result) → Result
made nothing s n rs run = halt (status_in s) s (suc n) rs
made (reads o) s n [] run = halt RepliesEnded s (suc n) []
made (reads o) s n (v ∷ rs) run = logging (access.Read o v) (run (next s v) rs)
made (writes o v) s n rs run = logging (access.Write o v) (run (next s v) rs)

-- with room for so many accesses, over these replies
unfoldable pub runs : ℕ → State → List ℕ → Result
runs zero s rs = no_room (want s) s rs
runs (suc n) s rs = made (want s) s n rs (runs n)

-- a call from its start
abbrev pub called : Script → ℕ → List ℕ → Result
called c n rs = runs n (begin c [] 0) rs

-- the lent buffer after it: the bytes brought, then what was there
abbrev pub overlaid : List ℕ → List ℕ → List ℕ
overlaid bs old = bs ++ drop (length bs) old

-- how many of the accesses are reads, each of which used a reply
unfoldable pub reads_of : List Access → ℕ
reads_of [] = 0
reads_of (access.Read o v ∷ l) = suc (reads_of l)
reads_of (access.Write o v ∷ l) = reads_of l

-- the replies that they used, in order
abbrev pub replies_of : List Access → List ℕ
replies_of [] = []
replies_of (access.Read o v ∷ l) = v ∷ replies_of l
replies_of (access.Write o v ∷ l) = replies_of l

-- ---- the logs of a call: each access the one that was due, whatever a read brings

pub data Matches : Want → Access → Type 0 where
  m_read : {o v : ℕ} → Matches (reads o) (access.Read o v)
  m_write : {o v : ℕ} → Matches (writes o v) (access.Write o v)

abbrev pub after : State → List Access → State
after s [] = s
after s (a ∷ l) = after (next s (value_word a)) l

abbrev pub Makes : State → List Access → Type 0
Makes s [] = Unit {0}
Makes s (a ∷ l) = Matches (want s) a × Makes (next s (value_word a)) l
