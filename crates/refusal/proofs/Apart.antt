-- No two refusals have one number. Assumes nothing.
use Rattle.std.specs.Prelude.{if◌then◌else◌}
use mathlib.Core.Path.{◌≡◌, refl, sym, ap, ◌∙◌}
use Prim.Native.Nat.{ℕ}
use lib.Dec.{eqb}
use Rattle.refusal.specs.declared.Refusal.{Refusal}
use Rattle.refusal.specs.declared.Refusal.TheVariants.{CutShort, Undoubled, PayloadTooLong, NoRoom, PastTheEnd, BadCommand, NotWritable, NotCarried, AlreadySo, UnderWay, AlreadyQueued, OffAnsweredByOn, NotIsOrInfo, NoVariable, BadEscape, ValueInValue, TooManyVariables, RepeatedVariable, BadVariableRecord, BadTable, BadProfile, ProfilesNotAscending, BadProfileName, BadPassword, BadServerSeed, BadDeviceOrSystemName, BadFrameLength, BadRecordType, BadDataFlow, BadHeaderLength, ReservedFlag, BadOperation, RecordHeld, NoneHeld, InboundFrame}
use Rattle.refusal.specs.Refusal.{number}

-- the refusal of a number of the table
unfoldable named : ℕ → Refusal
named n =
    if eqb n 1 then CutShort else
    if eqb n 2 then Undoubled else
    if eqb n 3 then PayloadTooLong else
    if eqb n 4 then NoRoom else
    if eqb n 5 then PastTheEnd else
    if eqb n 6 then BadCommand else
    if eqb n 7 then NotWritable else
    if eqb n 10 then NotCarried else
    if eqb n 11 then AlreadySo else
    if eqb n 12 then UnderWay else
    if eqb n 13 then AlreadyQueued else
    if eqb n 14 then OffAnsweredByOn else
    if eqb n 20 then NotIsOrInfo else
    if eqb n 21 then NoVariable else
    if eqb n 22 then BadEscape else
    if eqb n 23 then ValueInValue else
    if eqb n 24 then TooManyVariables else
    if eqb n 25 then RepeatedVariable else
    if eqb n 27 then BadVariableRecord else
    if eqb n 30 then BadTable else
    if eqb n 31 then BadProfile else
    if eqb n 32 then ProfilesNotAscending else
    if eqb n 33 then BadProfileName else
    if eqb n 34 then BadPassword else
    if eqb n 35 then BadServerSeed else
    if eqb n 36 then BadDeviceOrSystemName else
    if eqb n 40 then BadFrameLength else
    if eqb n 41 then BadRecordType else
    if eqb n 42 then BadDataFlow else
    if eqb n 43 then BadHeaderLength else
    if eqb n 44 then ReservedFlag else
    if eqb n 45 then BadOperation else
    if eqb n 50 then RecordHeld else
    if eqb n 51 then NoneHeld else
    InboundFrame

back : (why : Refusal) → named (number why) ≡ why
unfolding named
back CutShort = refl
back Undoubled = refl
back PayloadTooLong = refl
back NoRoom = refl
back PastTheEnd = refl
back BadCommand = refl
back NotWritable = refl
back NotCarried = refl
back AlreadySo = refl
back UnderWay = refl
back AlreadyQueued = refl
back OffAnsweredByOn = refl
back NotIsOrInfo = refl
back NoVariable = refl
back BadEscape = refl
back ValueInValue = refl
back TooManyVariables = refl
back RepeatedVariable = refl
back BadVariableRecord = refl
back BadTable = refl
back BadProfile = refl
back ProfilesNotAscending = refl
back BadProfileName = refl
back BadPassword = refl
back BadServerSeed = refl
back BadDeviceOrSystemName = refl
back BadFrameLength = refl
back BadRecordType = refl
back BadDataFlow = refl
back BadHeaderLength = refl
back ReservedFlag = refl
back BadOperation = refl
back RecordHeld = refl
back NoneHeld = refl
back InboundFrame = refl

pub by-its-number : (a b : Refusal) → number a ≡ number b → a ≡ b
by-its-number a b e = sym (back a) ∙ ap named e ∙ back b
