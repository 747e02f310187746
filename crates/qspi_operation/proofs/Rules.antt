-- Document 01's rules of a step, read off its definition: an ended operation repeats its answer; 25, 24 and 23 precisely when; a step logs
-- the access that was due. Assumes nothing.
use Rattle.std.proofs.Common.{◌≡◌, ℕ, ◌+◌, ◌%◌, ◌^◌, ◌<◌, ◌≤◌, true, false, leb, List, length, le-leb}
use borrow.Author.Tests.{lt-leb}
use Rattle.qspi_transfer.specs.declared.Due.TheVariants as due
use Rattle.qspi_script.specs.declared.Status.TheVariants.{LentLengthChanged, LogFull, RepliesEnded}
use Rattle.qspi_operation.specs.declared.Op.{Op}
use Rattle.std.specs.Prelude.{Option, Some, None}
use Rattle.qspi_operation.specs.Store.{stored}
use Rattle.qspi_operation.specs.Step.{is_going, access_of, same_lengths, step_of, log_of, buffer_of, stopped, moved, written}

module _ (o : Op) (bytes buffer log : List ℕ) (r : Option ℕ) where
  -- "An ended operation stepped again repeats its answer", whatever is lent, and changes nothing
  pub ended_repeats : is_going o.status ≡ false
      → (step_of o bytes (length buffer) (length log) r ≡ record { op = o; answer = o.status }) × ((log_of o bytes (length buffer) log r ≡ log) × (buffer_of o bytes buffer (length log) r ≡ buffer))
  ended_repeats e = (rw e, (rw e, rw e))

  module _ (g : is_going o.status ≡ true) where
    -- 25: another length; state and memory the same
    pub changed : same_lengths o.job (length bytes) (length buffer) (length log) ≡ false
        → (step_of o bytes (length buffer) (length log) r ≡ record { op = o; answer = LentLengthChanged }) × ((log_of o bytes (length buffer) log r ≡ log) × (buffer_of o bytes buffer (length log) r ≡ buffer))
    changed e = (rw (g, e), (rw (g, e), rw (g, e)))

    module _ (l : same_lengths o.job (length bytes) (length buffer) (length log) ≡ true) where
      -- 24: fewer than two words of log left, whatever is due and whatever the reply
      pub full : length log < o.used + 2
          → (step_of o bytes (length buffer) (length log) r ≡ stopped o LogFull) × ((log_of o bytes (length buffer) log r ≡ log) × (buffer_of o bytes buffer (length log) r ≡ buffer))
      full h =
          let e : leb (o.used + 2) (length log) ≡ false = lt-leb (o.used + 2) (length log) h in
          (rw (g, l, e), (rw (g, l, e), rw (g, l, e)))

      module _ (h : o.used + 2 ≤ length log) where
        e : leb (o.used + 2) (length log) ≡ true
        e = le-leb (o.used + 2) (length log) h

        -- 23: a read is due, and there is no reply
        pub dry : (k : ℕ) → access_of o.job o.place o.wire bytes ≡ due.Read k → r ≡ None
            → (step_of o bytes (length buffer) (length log) r ≡ stopped o RepliesEnded) × ((log_of o bytes (length buffer) log r ≡ log) × (buffer_of o bytes buffer (length log) r ≡ buffer))
        dry k d n = (rw (g, l, e, d, n), (rw (g, l, e, d, n), rw (g, l, e, d, n)))

        -- the read that was due is logged with the reply's word, and one reply is used
        pub reads : (k v : ℕ) → access_of o.job o.place o.wire bytes ≡ due.Read k → r ≡ Some v
            → (step_of o bytes (length buffer) (length log) r ≡ moved o (o.used + 2) ((o.replies + 1) % 2 ^ 64) v) × ((log_of o bytes (length buffer) log r ≡ written log o.used (0x100 + k) v) × (buffer_of o bytes buffer (length log) r ≡ stored o.job o.place o.wire v buffer))
        reads k v d n = (rw (g, l, e, d, n), (rw (g, l, e, d, n), rw (g, l, e, d, n)))

        -- the write that was due is logged, and a reply handed to it stays unused
        pub writes : (k v : ℕ) → access_of o.job o.place o.wire bytes ≡ due.Write k v
            → (step_of o bytes (length buffer) (length log) r ≡ moved o (o.used + 2) o.replies v) × ((log_of o bytes (length buffer) log r ≡ written log o.used k v) × (buffer_of o bytes buffer (length log) r ≡ stored o.job o.place o.wire v buffer))
        writes k v d = (rw (g, l, e, d), (rw (g, l, e, d), rw (g, l, e, d)))
