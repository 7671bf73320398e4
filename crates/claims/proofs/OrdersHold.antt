-- The order of refusals (`orders-hold`, the record `Orders.Orders`): environment writer, ledger, verdicts and token
-- maker go test by test; the rest is proved where its definitions are, or in `PlaceOrders` and `RoomOrders`. Assumes
-- nothing.
use mathlib.Core.List.{List}
use Prim.Native.Nat.{ℕ}
use borrow.Author.Tests.{lt-ltb, le-ltb, eq-eqb, ne_eqb}
use denote.Floats.{is_true}
use lib.ListN.{length}
use Rattle.names.specs.Name.{is_name}
use Rattle.telnet.specs.Event.{payload_limit}
use Rattle.telnet.proofs.Faults.{first-fault-decides as first-line-fault-decides}
use Rattle.env.specs.Variable.{variable_limit, is_first, repeated}
use Rattle.env.specs.Write.{objection, payload_of, nameless}
use Rattle.env.specs.Numbers.{variables_held, placed}
use Rattle.env.proofs.Faults.{first-fault-decides as first-variable-fault-decides, repeat-gives-way, too-long-first}
use Rattle.env_writer.specs.Promise.{put, write_into}
use Rattle.profile.proofs.Decides.{first-record-decides}
use Rattle.profile_maker.specs.Promise.{make_into}
use Rattle.password_des.specs.Answer.{des_token}
use Rattle.password_sha.specs.Answer.{sha_token}
use Rattle.signon.specs.Verdict.{answer_by, answer_of}
use Rattle.print_frame.proofs.Sentences.{frame-is-its-sentence}
use Rattle.print_ledger.specs.Ledger.{take_frame}
use Rattle.claims.specs.Orders.{WriterOrder, LedgerOrder, VerdictOrder, MakerOrder, Orders}
use Rattle.claims.proofs.PlaceOrders.{five-first}
use Rattle.claims.proofs.RoomOrders.{four-last}

writer-order : (first : ℕ) (bytes numbers out : List ℕ) → WriterOrder first bytes numbers out
unfolding write_into put objection is_first
writer-order first bytes numbers out =
    let vs = variables_held bytes numbers in
    let begins = is_true (is_first first) in
    let records = is_true (placed bytes numbers) in
    let few = le-ltb variable_limit (length vs) in
    record {
      twenty = λ zero two. rw (ne_eqb first 0 zero, ne_eqb first 2 two);
      bad_record = λ b p. rw (begins b, p);
      no_name = λ b p n. rw (begins b, records p, is_true (nameless vs) n);
      too_many = λ b p n m. rw (begins b, records p, n, lt-ltb variable_limit (length vs) m);
      twice = λ b p n m r. rw (begins b, records p, n, few m, is_true (repeated vs) r);
      too_long = λ b p n m r l. rw (begins b, records p, n, few m, r, lt-ltb payload_limit (length (payload_of first vs)) l);
    }

ledger-order : LedgerOrder
unfolding take_frame
ledger-order = record { frame = λ l f n e. rw e; inbound = λ l f x e d. rw (e, d); held = λ l f x h e d o. rw (e, d, o, h) }

verdict-order : (seed table payload : List ℕ) → VerdictOrder seed table payload
unfolding answer_of answer_by
verdict-order seed table payload = record {
  by_seed = λ not. rw (ne_eqb (length seed) 8 not);
  by_table = λ s n t. rw (eq-eqb (length seed) 8 s, t);
  by_payload = λ s ps t n p. rw (eq-eqb (length seed) 8 s, t, p);
}

maker-order : MakerOrder
unfolding make_into des_token sha_token
maker-order = record {
  name = λ m out n. rw n;
  password = λ m out n p. rw (is_true (is_name 10 m.name) n, p);
  des_name = λ name password n. rw n;
  des_password = λ name password n p. rw (is_true (is_name 10 name) n, p);
  sha_name = λ name password n. rw n;
  sha_password = λ name password n p. rw (is_true (is_name 10 name) n, p);
}

pub orders-hold : Orders
orders-hold = record {
  five_first = five-first;
  four_last = four-last;
  framing = first-line-fault-decides;
  environment = first-variable-fault-decides;
  repeats = repeat-gives-way;
  reader = too-long-first;
  writer = writer-order;
  tables = first-record-decides;
  frames = frame-is-its-sentence;
  ledger = ledger-order;
  verdicts = verdict-order;
  token_maker = maker-order;
}
