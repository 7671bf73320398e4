-- The verdict on what is at a place of a line.
use Rattle.std.specs.Prelude.{ℕ, List, replicate, None, Some, Result, Ok, Err}
use Rattle.octets.specs.Lent.{Outcome}
use Rattle.octets.specs.Part.{part}
use Rattle.telnet.specs.Event.{payload_limit}
use Rattle.refusal.specs.declared.Refusal.{Refusal}
use Rattle.telnet_reader.specs.Promise.{Answer, read_at}
use Rattle.signon.specs.declared.Verdict.{Verdict}
use Rattle.signon.specs.declared.Verdict.TheVariants.{Failed}
use Rattle.signon.specs.Verdict.{answer_of}
use Rattle.play.specs.Seed.{server_seed}

-- a refusal of the payload, or of the table, is answered as 0004
abbrev pub verdict_by : Result Verdict Refusal → Verdict
verdict_by (Ok v) = v
verdict_by (Err e) = Failed

abbrev pub length_of : Answer → ℕ
length_of (Ok (Some found)) = found.length
length_of (Ok None) = 0
length_of (Err e) = 0

-- the bytes that were read into a buffer
abbrev pub bytes_read : Outcome Answer → List ℕ
bytes_read o = part o.lent 0 (length_of o.answer)

-- under a table and the server's seed, the verdict on the payload at a place
unfoldable pub judged : (table up : List ℕ) → ℕ → Verdict
judged table up at = verdict_by (answer_of server_seed table (bytes_read (read_at up at (replicate payload_limit 0))))
