-- The owner's demand 2: "Framing, options, environment strings, password substitutes, sign-on verdicts and printer
-- frames are those of the RFCs and federal standards we name, as our specification reads them, reading and writing
-- alike. Sign-on is granted exactly when the named profile is enabled and either its token, of a kind it allows, gives
-- the offered substitute under this session's two seeds, the client's not zero, or, with that seed empty or zero, a
-- clear password gives its stored token." Each function's own promise says that it answers and leaves what the papers
-- say; here is what holds above single functions. The order of refusals is `Orders.antt`; the table of the option rules
-- is `option_rules/specs/Table.antt`, and two ends under it are `Demand3.antt`.
use Rattle.telnet.specs.Theorems as Telnet
use Rattle.telnet_fragments.specs.Theorems as Fragments
use Rattle.option_verbs.specs.Verbs.{HeardAsSaid}
use Rattle.option_sides.specs.Session.{SetsOne}
use Rattle.option_line.specs.Theorems.{RequestIsHeard, RequestTells, ReceiptTells, HearTells}
use Rattle.env.specs.Theorems as Env
use Rattle.env_delivery.specs.Theorems.{ReadIsHeld, RoomSuffices}
use Rattle.env_writer.specs.Theorems.{WroteReadsBack}
use Rattle.env_list.specs.Theorems.{ListsTheVariables}
use Rattle.profile.specs.Theorems.{RecordsReadBack, TablesReadBack, TablesWrittenBack, AtMost500, ExampleRead, LookupIsMembership}
use Rattle.profile_table.specs.Theorems.{FoundIsNamed}
use Rattle.profile_maker.specs.Theorems.{MadeRecordsAreGood, MadeTablesRead}
use Rattle.password_check.specs.Theorems.{OwnPasswordGives, OnlyItsLengths}
use Rattle.signon.specs.Theorems.{VerdictIsItsSentence, NoVerdictIfRefused, OnlyEnabledGranted}
use Rattle.signon.specs.ReasonTheorems.{ReasonIsFirst, SomeCauseHolds, WordsInOrder, VerdictOfItsReason, GrantedExactly}
use Rattle.signon.specs.ReasonTheorems.{UndefinedIsAbsent, ConditionsSay}
use Rattle.startup.specs.Theorems.{ResponsesAreRight, Figures}
use Rattle.print_frame.specs.Theorems.{FrameIsItsSentence, TooLongToSay}
use Rattle.print_ledger.specs.Theorems.{PrintCompleteReadsBack, PrintCompleteIsAFrame, PrintsAreHeardBack}
use Rattle.claims.specs.MadeSignsOn.{MadeSignsOn}
use Rattle.claims.specs.WrittenBack.{ReadIsWrittenBack}
use Rattle.claims.specs.Sections.{DesTokenOfTheSection, DesSubstituteOfTheSection, ShaTokenOfTheSection, ShaSubstituteOfTheSection}

pub record Demand2 : Type 0 where
  -- FRAMING, both ways
  -- "Over lists of writable events with no two runs adjacent, reading what was written gives the list;
  pub events_read_back : Telnet.ReadsBack
  -- writing what was read without refusal gives the bytes."
  pub bytes_written_back : Telnet.WritesBack
  -- And the writer refuses nothing of what was read.
  pub read_is_writable : Telnet.ReadIsWritable
  -- "One call reads one event at a place and gives the next place": the reading of a whole stream is one such call
  -- after another.
  pub one_event_after_another : Telnet.Unrolled
  -- FRAMING, BY FRAGMENTS (change request No. 2): "Demand 2 reads over the joined input", over the calls as they were
  -- made and answered
  -- "From fresh or reset, each call given the last one's state and the bytes not yet taken, however cut, even with
  -- nothing between two cuts, data, commands and subnegotiations in their order and the end state equal the whole
  -- reading of the bytes taken, with adjacent runs joined."
  pub takes_the_stream : Fragments.TakesTheStream
  pub ends_in_its_mode : Fragments.EndsInItsMode
  -- "Where the whole reading refuses with 1, the fragment reader is still waiting and only a closing call gives 1; at
  -- rest closing gives end."
  pub closes_alike : Fragments.ClosesAlike
  -- "A call ends at the first command or subnegotiation completed, at the fragment's end, or after 1,024 bytes of it; it
  -- gives the data before, that event if any, its payload right after the data, and the count taken."
  pub ends_there : Fragments.EndsThere
  -- And it takes a byte where there is one, so that every stream is taken to its end or to its fault.
  pub takes_some : Fragments.TakesSome
  -- "The call that meets 2, 3 or 6 .. gives its number, the data before, no event, and counts through the faulting
  -- byte"; "4 only for lent room under 2,048 bytes".
  pub numbers_given : Fragments.NumbersGiven
  -- "later calls take nothing and answer that number until reset."
  pub stays_as_it_was : Fragments.StaysAsItWas
  -- "however cut": two lists of calls that took equally many bytes of one stream gave the same, close alike and go on
  -- alike.
  pub however_cut : Fragments.HoweverCut
  -- RECORDS
  -- "A record is all data between two end-of-record events; commands between don't break it."
  pub record_is_all_data : Telnet.RecordIsAllData
  -- Data written as a run and an end-of-record is read back as that record.
  pub record_reads_back : Telnet.RecordReadsBack
  -- OPTIONS, on the line
  -- "On means WILL or DO and off WONT or DONT, as the side has it": what one end says of a side, the other hears of the
  -- same side,
  pub heard_as_said : HeardAsSaid
  -- and a step of one side leaves the nine others as they were.
  pub sets_one : SetsOne
  -- "What a step sends goes last on the line from its end": a command that a request put on a line is heard there, and
  -- steps the facing side by the table.
  pub request_is_heard : RequestIsHeard
  -- "Every call's successor, number and command are the table's", but for 5 and 4, which leave everything.
  pub request_tells : RequestTells
  pub receipt_tells : ReceiptTells
  pub hear_tells : HearTells
  -- ENVIRONMENT STRINGS, both ways, read "with the mark" (change request No. 3)
  -- "The writer escapes 0 to 3 ..; reading it back gives the same first byte and the same kinds, names and values in
  -- order", undefined where they were;
  pub variables_read_back : Env.ReadsBack
  -- and what was read, written, is the payload, byte for byte:
  pub payloads_written_back : Env.WritesBack
  -- so the writer, given what the reader left, writes the payload.
  pub read_is_written_back : ReadIsWrittenBack
  -- "Repeats still count it, so 25 is unchanged", and so is every other number of the reader.
  pub reads_as_before : Env.ReadsAsBefore
  -- "Names and values without their ESCs go, back to back, into a lent buffer; their places are set in a lent list of
  -- variable records": the two hold the variables again.
  pub variables_held_again : Env.HoldsAgain
  -- What the reader answers and leaves is what the payload says, and what the writer answers and leaves reads as what
  -- it was given.
  pub read_is_held : ReadIsHeld
  pub wrote_reads_back : WroteReadsBack
  -- "At most 64", and 3 for a "payload over 1,024 bytes": room for 1,024 bytes and 64 records is always enough.
  pub room_suffices : RoomSuffices
  -- The variables are held again also where the records are a list of structs.
  pub lists_the_variables : ListsTheVariables
  -- PROFILE TABLES, both ways
  -- "one version byte 1, then records": a table of profiles that are well-formed, strictly ascending and at most 500
  -- reads as those profiles, and the records of any shape do;
  pub records_read_back : RecordsReadBack
  pub tables_read_back : TablesReadBack
  -- and what is read without refusal, written, gives the bytes.
  pub tables_written_back : TablesWrittenBack
  -- "or a 501st record": a table has at most 500.
  pub at_most_500 : AtMost500
  -- One record in bytes, with its name, marks and tokens.
  pub example_read : ExampleRead
  -- "profile names not strictly ascending" are refused: so no name is there twice, and a look-up is membership;
  pub lookup_is_membership : LookupIsMembership
  -- what the look-up answers is the profile of that name, by the place where its record is.
  pub found_is_named : FoundIsNamed
  -- "The token maker takes a name, a password and two yes-or-no marks, enabled and DES allowed, and writes one record":
  -- the record of a well-formed profile; and a table of made records in ascending order reads as the profiles that were
  -- made.
  pub made_records_are_good : MadeRecordsAreGood
  pub made_tables_read : MadeTablesRead
  -- TOKENS AND SUBSTITUTES, against their sections
  -- "DES (003 section 5.1)": PW_TOKEN and PW_SUB;
  pub des_token_of_the_section : DesTokenOfTheSection
  pub des_substitute_of_the_section : DesSubstituteOfTheSection
  -- "SHA-1: section 5.2 gives token and substitute".
  pub sha_token_of_the_section : ShaTokenOfTheSection
  pub sha_substitute_of_the_section : ShaSubstituteOfTheSection
  -- "its token .. gives the offered substitute under this session's two seeds .., or .. a clear password gives its
  -- stored token": what the password of a name gives passes, under all seeds, and no other substitute does.
  pub own_password_gives : OwnPasswordGives
  -- "8-byte DES token, 20-byte SHA-1 token": nothing passes with a token, a seed or a substitute of another length.
  pub only_its_lengths : OnlyItsLengths
  -- SIGN-ON: GRANT and its neighbours
  -- "Sign-on is granted exactly when the named profile is enabled and either its token, of a kind it allows, gives the
  -- offered substitute under this session's two seeds, the client's not zero, or, with that seed empty or zero, a clear
  -- password gives its stored token." The sentence of GRANT is `Granted`; each other verdict is given exactly where its
  -- own sentence holds.
  pub verdict_is_its_sentence : VerdictIsItsSentence
  -- "A refusal returns its number": no verdict is given where something is refused.
  pub no_verdict_if_refused : NoVerdictIfRefused
  -- "0002, if VAR USER is .. not in the table; 0003, not enabled": such a profile is never granted, whatever is
  -- offered.
  pub only_enabled_granted : OnlyEnabledGranted
  -- "Verdicts and reasons treat an undefined variable as absent" (change request No. 3).
  pub undefined_is_absent : UndefinedIsAbsent
  -- REASONS (change request No. 1)
  -- "The reason given is proved to be the first that holds in that order",
  pub reason_is_first : ReasonIsFirst
  -- of a list in which one always holds,
  pub some_cause_holds : SomeCauseHolds
  -- and whose words are the request's text, in its order;
  pub words_in_order : WordsInOrder
  -- "and each reason belongs to one verdict only": verdict and reason agree, refusals included.
  pub verdict_of_its_reason : VerdictOfItsReason
  -- The reason is "granted" exactly where GRANT is given.
  pub granted_exactly : GrantedExactly
  -- "Substitute length, and DES not allowed for 8 bytes, need a seed that isn't clear, clear password malformed one
  -- that is."
  pub conditions_say : ConditionsSay
  -- MADE AND OFFERED
  -- Made, stored, offered, granted: token maker, table, substitute and verdict together.
  pub made_signs_on : MadeSignsOn
  -- RESPONSE RECORDS
  -- "8902 for a device fault, which outranks sign-on; else the verdict's digits; else I902": the code in a response
  -- record says fault and verdict, the record has the figures' 73 bytes, and on the line it reads back as one record.
  pub responses_are_right : ResponsesAreRight
  -- "Response records follow section 10's figures for success and error": the two that the figures print, byte for
  -- byte.
  pub figures : Figures
  -- PRINTER FRAMES
  -- 40 to 45, each exactly where its sentence in the table of refusals holds and none before it does.
  pub frame_is_its_sentence : FrameIsItsSentence
  -- "The device's completion writes the fixed ten bytes 00 0A 12 A0 01 02 04 00 00 01": on the line they read back as
  -- one record,
  pub print_complete_reads_back : PrintCompleteReadsBack
  -- and as a frame: the client's, a print, with no flag set and nothing after the header.
  pub print_complete_is_a_frame : PrintCompleteIsAFrame
  -- "LLLL not its length" is 40: so is every frame that is too long to say its length.
  pub too_long_to_say : TooLongToSay
  -- THE LEDGER
  -- "Over any calls from fresh, accepted prints equal completions plus records cleared plus the one held, each counted
  -- from the history of calls": and a completion is written for a held record exactly once, and never otherwise.
  pub prints_are_heard_back : PrintsAreHeardBack
