-- "On" and "off" as the option commands of the line: "On means WILL or DO and off WONT or DONT, as the side has it"
-- (specification, "Option rules"). Who sends WILL or WONT speaks of his own side, who sends DO or DONT of the other's
-- (RFC 854, "TELNET COMMAND STRUCTURE").
use Rattle.std.specs.Prelude.{◌≡◌, ℕ, Option, None, Some}
use Rattle.telnet.specs.declared.Verb.{Verb}
use Rattle.telnet.specs.declared.Verb.TheVariants.{Will, Wont, Do, Dont}
use Rattle.option_rules.specs.declared.Command.{Command}
use Rattle.option_rules.specs.declared.Command.TheVariants.{On as on, Off as off}
use Rattle.option_verbs.specs.declared.Whose.{Whose}
use Rattle.option_verbs.specs.declared.Whose.TheVariants.{Ours, Other}
use Rattle.option_verbs.specs.declared.Told.{Told}
use Rattle.option_verbs.specs.declared.Outgoing.{Outgoing}

abbrev pub told : Whose → Command → Told
told w c = record { whose = w; command = c }

-- what a command that we receive says, and of which side as we see it
abbrev pub told_by : Verb → Told
told_by Will = told Other on
told_by Wont = told Other off
told_by Do = told Ours on
told_by Dont = told Ours off

-- the command by which we say on or off of a side
abbrev pub verb_for : Whose → Command → Verb
verb_for Ours on = Will
verb_for Ours off = Wont
verb_for Other on = Do
verb_for Other off = Dont

abbrev pub outgoing : Verb → ℕ → Outgoing
outgoing v o = record { verb = v; option = o }

-- the option command that is to be written for what a side sends
abbrev pub command_for : Whose → ℕ → Option Command → Option Outgoing
command_for w option None = None
command_for w option (Some c) = Some (outgoing (verb_for w c) option)

-- one side, as the other end sees it
abbrev pub facing : Whose → Whose
facing Ours = Other
facing Other = Ours

-- What one end says of a side, the other end hears of the same side.
abbrev pub HeardAsSaid : Type 0
HeardAsSaid = (w : Whose) (c : Command) → told_by (verb_for w c) ≡ told (facing w) c
