-- The refusal numbers of the specification, "Refusal numbers", each by name, with what the table says of it.
use Rattle.std.specs.Prelude.{ℕ, List, [], ◌∷◌}
use Rattle.refusal.specs.declared.Refusal.{Refusal}
use Rattle.refusal.specs.declared.Refusal.TheVariants.{CutShort, Undoubled, PayloadTooLong, NoRoom, PastTheEnd, BadCommand, NotWritable, NotCarried, AlreadySo, UnderWay, AlreadyQueued, OffAnsweredByOn, NotIsOrInfo, NoVariable, BadEscape, ValueInValue, TooManyVariables, RepeatedVariable, BadVariableRecord, BadTable, BadProfile, ProfilesNotAscending, BadProfileName, BadPassword, BadServerSeed, BadDeviceOrSystemName, BadFrameLength, BadRecordType, BadDataFlow, BadHeaderLength, ReservedFlag, BadOperation, RecordHeld, NoneHeld, InboundFrame}

-- Framing

-- input ends inside a command or subnegotiation
abbrev pub cut_short : ℕ
cut_short = 1

-- inside a subnegotiation, 255 is followed by neither 255 nor 240
abbrev pub undoubled : ℕ
undoubled = 2

-- payload over 1,024 bytes before doubling, read or to be written
abbrev pub payload_too_long : ℕ
payload_too_long = 3

-- a lent buffer or list is too short for the whole answer
abbrev pub no_room : ℕ
no_room = 4

-- the starting place is past the end
abbrev pub past_the_end : ℕ
past_the_end = 5

-- 255 is followed by a byte below 239, or by 240
abbrev pub bad_command : ℕ
bad_command = 6

-- writer given an empty data run, or a simple command outside 239, 241 to 249
abbrev pub not_writable : ℕ
not_writable = 7

-- Options

-- request for an option not carried
abbrev pub not_carried : ℕ
not_carried = 10

-- request: already so
abbrev pub already_so : ℕ
already_so = 11

-- request: already under way
abbrev pub under_way : ℕ
under_way = 12

-- request: already queued
abbrev pub already_queued : ℕ
already_queued = 13

-- note: off answered by on
abbrev pub off_answered_by_on : ℕ
off_answered_by_on = 14

-- Environment strings

-- environment payload empty, or first byte not 0 (IS) or 2 (INFO)
abbrev pub not_is_or_info : ℕ
not_is_or_info = 20

-- a variable expected and absent, or its name empty
abbrev pub no_variable : ℕ
no_variable = 21

-- ESC at the end, or before a byte above 3
abbrev pub bad_escape : ℕ
bad_escape = 22

-- VALUE inside a value
abbrev pub value_in_value : ℕ
value_in_value = 23

-- a 65th variable opens
abbrev pub too_many_variables : ℕ
too_many_variables = 24

-- same kind and name twice
abbrev pub repeated_variable : ℕ
repeated_variable = 25

-- writer: a record's kind is neither VAR nor USERVAR, or a place with its length runs past the buffer
abbrev pub bad_variable_record : ℕ
bad_variable_record = 27

-- Profile table, token maker, sign-on, response records

-- profile table empty or version not 1
abbrev pub bad_table : ℕ
bad_table = 30

-- profile record malformed
abbrev pub bad_profile : ℕ
bad_profile = 31

-- profile names not strictly ascending, or a 501st record
abbrev pub profiles_not_ascending : ℕ
profiles_not_ascending = 32

-- token maker: bad profile name
abbrev pub bad_profile_name : ℕ
bad_profile_name = 33

-- token maker: bad password
abbrev pub bad_password : ℕ
bad_password = 34

-- server seed not 8 bytes
abbrev pub bad_server_seed : ℕ
bad_server_seed = 35

-- response record: bad device or system name
abbrev pub bad_device_or_system_name : ℕ
bad_device_or_system_name = 36

-- Printer frames and the ledger

-- frame under 10 bytes, or LLLL not its length
abbrev pub bad_frame_length : ℕ
bad_frame_length = 40

-- bytes 2 and 3 not 12 A0
abbrev pub bad_record_type : ℕ
bad_record_type = 41

-- data flow not 0101, 0102, 1101 or 1102
abbrev pub bad_data_flow : ℕ
bad_data_flow = 42

-- LL under 4, or 6 + LL over LLLL
abbrev pub bad_header_length : ℕ
bad_header_length = 43

-- a reserved flag bit set
abbrev pub reserved_flag : ℕ
reserved_flag = 44

-- operation code not 01 or 02
abbrev pub bad_operation : ℕ
bad_operation = 45

-- print frame while one is held
abbrev pub record_held : ℕ
record_held = 50

-- completion with none held
abbrev pub none_held : ℕ
none_held = 51

-- inbound frame given to the ledger
abbrev pub inbound_frame : ℕ
inbound_frame = 52

-- every number, in the table's order
abbrev pub numbers : List ℕ
numbers =
    cut_short ∷ undoubled ∷ payload_too_long ∷ no_room ∷ past_the_end ∷ bad_command ∷ not_writable ∷ not_carried ∷ already_so ∷
    under_way ∷ already_queued ∷ off_answered_by_on ∷ not_is_or_info ∷ no_variable ∷ bad_escape ∷ value_in_value ∷
    too_many_variables ∷ repeated_variable ∷ bad_variable_record ∷ bad_table ∷ bad_profile ∷ profiles_not_ascending ∷
    bad_profile_name ∷ bad_password ∷ bad_server_seed ∷ bad_device_or_system_name ∷ bad_frame_length ∷ bad_record_type ∷
    bad_data_flow ∷ bad_header_length ∷ reserved_flag ∷ bad_operation ∷ record_held ∷ none_held ∷ inbound_frame ∷ []

-- the number of a refusal
abbrev pub number : Refusal → ℕ
number CutShort = cut_short
number Undoubled = undoubled
number PayloadTooLong = payload_too_long
number NoRoom = no_room
number PastTheEnd = past_the_end
number BadCommand = bad_command
number NotWritable = not_writable
number NotCarried = not_carried
number AlreadySo = already_so
number UnderWay = under_way
number AlreadyQueued = already_queued
number OffAnsweredByOn = off_answered_by_on
number NotIsOrInfo = not_is_or_info
number NoVariable = no_variable
number BadEscape = bad_escape
number ValueInValue = value_in_value
number TooManyVariables = too_many_variables
number RepeatedVariable = repeated_variable
number BadVariableRecord = bad_variable_record
number BadTable = bad_table
number BadProfile = bad_profile
number ProfilesNotAscending = profiles_not_ascending
number BadProfileName = bad_profile_name
number BadPassword = bad_password
number BadServerSeed = bad_server_seed
number BadDeviceOrSystemName = bad_device_or_system_name
number BadFrameLength = bad_frame_length
number BadRecordType = bad_record_type
number BadDataFlow = bad_data_flow
number BadHeaderLength = bad_header_length
number ReservedFlag = reserved_flag
number BadOperation = bad_operation
number RecordHeld = record_held
number NoneHeld = none_held
number InboundFrame = inbound_frame
