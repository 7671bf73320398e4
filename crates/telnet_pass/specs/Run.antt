-- What is found of bytes that are gone through from a reader's stage on.
use Rattle.std.specs.Prelude.{◌≡◌, ℕ, ◌≤◌, List, length, take, Option}
use Rattle.telnet.specs.declared.Kind.{Kind}
use Rattle.telnet.specs.Event.{payload_limit}
use Rattle.telnet_fragments.specs.declared.Stage.{Stage}
use Rattle.telnet_fragments.specs.Call.{given}
use Rattle.telnet_fragments.specs.Promise.{standing, happened}
use Rattle.telnet_pass.specs.declared.Run.{Run}
use Rattle.octets.specs.Lent.{overwrite}

abbrev pub ran : Stage → (count taken length : ℕ) → Option Kind → Run
ran s n t l k = record { stage = s; count = n; taken = t; length = l; kind = k }

-- What the bytes bs came to, from a stage s with n payload bytes of the array p and with a buffer out: the data at the
-- front of the buffer, the event, how many bytes were taken, and the mode. The count is that of payload bytes, of the
-- event or of the mode, and is free where neither has a payload; past it the array is free.
pub record Ran (s : Stage) (n : ℕ) (p bs out : List ℕ) (r : Run) (p' out' : List ℕ) : Type 0 where
  pub data_is : out' ≡ overwrite out 0 (given (standing s n p) bs).run
  pub length-is : r.length ≡ length (given (standing s n p) bs).run
  pub taken_is : r.taken ≡ (given (standing s n p) bs).taken
  pub event-is : happened r.kind (take r.count p') ≡ (given (standing s n p) bs).event
  pub mode-is : standing r.stage r.count p' ≡ (given (standing s n p) bs).mode
  pub short-is : r.length ≤ length bs
  pub kept-is : length p' ≡ payload_limit
