-- What comes of the access that is due in a trial: a read gets the reply of the next draw, and a write of 1 to the enable register enables
-- the controller.
use Rattle.std.specs.Prelude.{ℕ, Bool, eqb, if◌then◌else◌}
use Rattle.zynq7000.specs.declared.qspi.Access.{Access}
use Rattle.zynq7000.specs.declared.qspi.Access.TheVariants as access
use Rattle.qspi_transfer.specs.declared.Due.{Due}
use Rattle.qspi_transfer.specs.declared.Due.TheVariants as due
use Rattle.trial_calls.specs.Draws.{next_draw}
use Rattle.trial_calls.specs.Replies.{reply_of}
use Rattle.trial_calls.specs.declared.reply.Style.{Style}

abbrev pub access_of : Style → ℕ → Bool → Due → Access
access_of style draw enabled (due.Read offset) = access.Read offset (reply_of style (next_draw draw) enabled offset)
access_of style draw enabled (due.Write offset value) = access.Write offset value

abbrev pub draw_after : ℕ → Access → ℕ
draw_after draw (access.Read offset value) = next_draw draw
draw_after draw (access.Write offset value) = draw

abbrev pub enabled_after : Bool → Access → Bool
enabled_after enabled (access.Read offset value) = enabled
enabled_after enabled (access.Write offset value) = if eqb offset 0x14 then eqb value 1 else enabled
