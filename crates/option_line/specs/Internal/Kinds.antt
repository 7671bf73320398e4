-- What an event heard is looked at for: its kind alone.
use Rattle.std.specs.Prelude.{Option, None, Some, Result, Ok, Err}
use Rattle.refusal.specs.declared.Refusal.{Refusal}
use Rattle.telnet.specs.declared.Kind.{Kind}
use Rattle.telnet_reader.specs.Promise.{Answer}

-- what is at a place, by its kind
abbrev pub kind_of : Answer → Result (Option Kind) Refusal
kind_of (Ok None) = Ok None
kind_of (Ok (Some f)) = Ok (Some f.kind)
kind_of (Err e) = Err e
