-- `claims::demand_2` promises what the families prove. Assumes nothing.
use Rattle.telnet.proofs.RoundTrip.{reads-back, writes-back}
use Rattle.telnet.proofs.Writable.{read-is-writable}
use Rattle.telnet.proofs.Unroll.{unrolled}
use Rattle.telnet.proofs.Between.{record-is-all-data, record-reads-back}
use Rattle.telnet_fragments.proofs.Chaining.{takes-the-stream, ends-in-its-mode}
use Rattle.telnet_fragments.proofs.Closing.{closes-alike, however-cut}
use Rattle.telnet_fragments.proofs.Ending.{ends_there, takes-some, numbers-given, stays-as-it-was}
use Rattle.option_verbs.proofs.Heard.{heard-as-said}
use Rattle.option_sides.proofs.Setting.{sets-one}
use Rattle.option_line.proofs.Telling.{request-tells-all, receipt-tells-all}
use Rattle.option_line.proofs.Hearing.{hear-tells, request-is-heard}
use Rattle.env.proofs.ReadingBack.{reads-back as variables-read-back}
use Rattle.env.proofs.WritingBack.{writes-back as payloads-written-back}
use Rattle.env.proofs.AsBefore.{reads-as-before}
use Rattle.env.proofs.Holding.{holds-again}
use Rattle.env_delivery.proofs.Meaning.{read-is-held, room-suffices}
use Rattle.env_writer.proofs.Meaning.{wrote-reads-back}
use Rattle.env_list.proofs.Meaning.{lists-the-variables}
use Rattle.profile.proofs.Tables.{records-read-back, tables-read-back}
use Rattle.profile.proofs.Backs.{tables-written-back}
use Rattle.profile.proofs.Decides.{at-most-500}
use Rattle.profile.proofs.Example.{example-read}
use Rattle.profile.proofs.Members.{lookup-is-membership}
use Rattle.profile_table.proofs.Meaning.{found-is-named}
use Rattle.profile_maker.proofs.Goodness.{made-records-are-good, made-tables-read}
use Rattle.password_check.proofs.Own.{own-password-gives, only-its-lengths}
use Rattle.signon.proofs.Verdicts.{verdict-is-its-sentence, no-verdict-if-refused, only-enabled-granted}
use Rattle.signon.proofs.Reasons.{reason-is-first, some-cause-holds, words-in-order, verdict-of-its-reason, granted-exactly}
use Rattle.signon.proofs.Conditions.{conditions-say}
use Rattle.signon.proofs.Undefined.{undefined-is-absent}
use Rattle.startup.proofs.Records.{responses-are-right, figures}
use Rattle.print_frame.proofs.Sentences.{frame-is-its-sentence}
use Rattle.print_frame.proofs.Limits.{too-long-to-say}
use Rattle.print_ledger.proofs.OnTheLine.{print-complete-reads-back, print-complete-is-a-frame}
use Rattle.print_ledger.proofs.HeardBack.{prints-are-heard-back}
use Rattle.claims.proofs.MadeSignsOn.{made-signs-on}
use Rattle.claims.proofs.WrittenBack.{read-is-written-back}
use Rattle.claims.proofs.Sections.{des-token-of-the-section, des-substitute-of-the-section, sha-token-of-the-section, sha-substitute-of-the-section}
use Rattle.claims.proofs.demand_2.Goals as goal

pub returns : goal.returns
returns c =
    record {
      events_read_back = reads-back;
      bytes_written_back = writes-back;
      read_is_writable = read-is-writable;
      one_event_after_another = unrolled;
      takes_the_stream = takes-the-stream;
      ends_in_its_mode = ends-in-its-mode;
      closes_alike = closes-alike;
      ends_there = ends_there;
      takes_some = takes-some;
      numbers_given = numbers-given;
      stays_as_it_was = stays-as-it-was;
      however_cut = however-cut;
      record_is_all_data = record-is-all-data;
      record_reads_back = record-reads-back;
      heard_as_said = heard-as-said;
      sets_one = sets-one;
      request_is_heard = request-is-heard;
      request_tells = request-tells-all;
      receipt_tells = receipt-tells-all;
      hear_tells = hear-tells;
      variables_read_back = variables-read-back;
      payloads_written_back = payloads-written-back;
      read_is_written_back = read-is-written-back;
      reads_as_before = reads-as-before;
      variables_held_again = holds-again;
      read_is_held = read-is-held;
      wrote_reads_back = wrote-reads-back;
      room_suffices = room-suffices;
      lists_the_variables = lists-the-variables;
      records_read_back = records-read-back;
      tables_read_back = tables-read-back;
      tables_written_back = tables-written-back;
      at_most_500 = at-most-500;
      example_read = example-read;
      lookup_is_membership = lookup-is-membership;
      found_is_named = found-is-named;
      made_records_are_good = made-records-are-good;
      made_tables_read = made-tables-read;
      des_token_of_the_section = des-token-of-the-section;
      des_substitute_of_the_section = des-substitute-of-the-section;
      sha_token_of_the_section = sha-token-of-the-section;
      sha_substitute_of_the_section = sha-substitute-of-the-section;
      own_password_gives = own-password-gives;
      only_its_lengths = only-its-lengths;
      verdict_is_its_sentence = verdict-is-its-sentence;
      no_verdict_if_refused = no-verdict-if-refused;
      only_enabled_granted = only-enabled-granted;
      undefined_is_absent = undefined-is-absent;
      reason_is_first = reason-is-first;
      some_cause_holds = some-cause-holds;
      words_in_order = words-in-order;
      verdict_of_its_reason = verdict-of-its-reason;
      granted_exactly = granted-exactly;
      conditions_say = conditions-say;
      made_signs_on = made-signs-on;
      responses_are_right = responses-are-right;
      figures = figures;
      frame_is_its_sentence = frame-is-its-sentence;
      print_complete_reads_back = print-complete-reads-back;
      print_complete_is_a_frame = print-complete-is-a-frame;
      too_long_to_say = too-long-to-say;
      prints_are_heard_back = prints-are-heard-back;
    }
