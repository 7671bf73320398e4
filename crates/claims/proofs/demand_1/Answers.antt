-- `claims::demand_1` promises that every entry point refuses by its own numbers and leaves all as it was. Assumes
-- nothing.
use Rattle.claims.proofs.LineRefusals.{looks, reads, reads-records, writes, lists, receives, requests}
use Rattle.claims.proofs.FragmentRefusals.{feeds}
use Rattle.claims.proofs.SessionRefusals.{session-receives, session-requests, line-receives, line-requests, line-hears, line-hears-events}
use Rattle.claims.proofs.PayloadRefusals.{reads-payloads, reads-lists, writes-payloads, reads-variables, delivers, hands-over}
use Rattle.claims.proofs.SignonRefusals.{checks, finds, makes, des-tokens, sha-tokens, des-substitutes, sha-substitutes, judges, explains, responds, reads-frames, takes, completes}
use Rattle.claims.proofs.demand_1.Goals as goal

pub returns : goal.returns
returns c =
    record {
      look = looks;
      read = reads;
      read_record = reads-records;
      write = writes;
      feed = feeds;
      list = lists;
      receive = receives;
      request = requests;
      session_receive = session-receives;
      session_request = session-requests;
      line_receive = line-receives;
      line_request = line-requests;
      line_hear_event = line-hears-events;
      line_hear = line-hears;
      read_payload = reads-payloads;
      read_records = reads-lists;
      write_payload = writes-payloads;
      read_variables = reads-variables;
      deliver = delivers;
      hand_over = hands-over;
      check = checks;
      find = finds;
      make = makes;
      des_token = des-tokens;
      sha_token = sha-tokens;
      des_substitute = des-substitutes;
      sha_substitute = sha-substitutes;
      verdict = judges;
      explain = explains;
      response = responds;
      read_frame = reads-frames;
      take_frame = takes;
      complete = completes;
    }
