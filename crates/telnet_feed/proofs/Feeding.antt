-- What a call leaves, by what `pass` finds: the laws that each way out of `feed` cites. Assumes nothing.
use Rattle.std.specs.Prelude.{Option, None, Some}
use Rattle.std.specs.Option.{is_some}
use mathlib.Core.Path.{◌≡◌, refl, sym, ap, ◌∙◌}
use mathlib.Core.Bool.{true, false}
use mathlib.Core.List.{List, ◌++◌}
use Prim.Native.Nat.{ℕ, ◌+◌, ◌≤◌, ◌<◌, min}
use native.Mathlib.Omega.{arith}
use native.Mathlib.Nat.{zero-add}
use lib.ListN.{length, take, length-take}
use lib.Seq.{length-take-le}
use borrow.Author.Tests.{lt-ltb, le-ltb}
use Rattle.telnet.specs.declared.Kind.{Kind}
use Rattle.telnet.specs.declared.Kind.TheVariants.{Data as RunKind, Command, Negotiation, Subnegotiation}
use Rattle.telnet.specs.Event.{payload_limit}
use Rattle.telnet.specs.Whole.{Mode, payload, closing}
use Rattle.telnet_fragments.specs.declared.Stage.{Stage}
use Rattle.telnet_fragments.specs.declared.Stage.TheVariants.{Data, IacSeen, Choosing, Opening, Payload, Closing, Failed}
use Rattle.telnet_pass.specs.declared.Run.{Run}
use Rattle.telnet_fragments.specs.Call.{has_failed, given, called, call_limit, refusal_of}
use Rattle.telnet_fragments.specs.Promise.{standing, happened}
use Rattle.telnet_pass.specs.Run.{Ran}
use Rattle.telnet_fragments.specs.Promise.{sees, kind_of, carried_of, delivered, feed_of, is_idle, payload_of}
use Rattle.telnet_feed.specs.Internal.Answers.{payload_length}
use Rattle.telnet_stage.specs.Stage.{held_count, fault_of}
use Rattle.octets_part.proofs.Parts.{take_min}
use Rattle.octets.specs.Lent.{outcome, overwrite}
use Rattle.octets.proofs.Overwrite.{overwrite-nil, overwrite-append, length-overwrite}
use Rattle.refusal.specs.declared.Refusal.{Refusal}
use Rattle.refusal.specs.declared.Refusal.TheVariants.{NoRoom}

pub payload-most : (k : Option Kind) (n : ℕ) → payload_length k n ≤ 1024
payload-most None n = omega arith
payload-most (Some RunKind) n = omega arith
payload-most (Some (Command c)) n = omega arith
payload-most (Some (Negotiation v o)) n = omega arith
payload-most (Some (Subnegotiation o)) n = omega arith

-- the payload bytes that a count stands for
held-taken : (n : ℕ) (p : List ℕ) → length p ≡ 1024 → take (min n payload_limit) p ≡ take n p
held-taken n p h = rw h at (take_min n p)

-- a reader has failed exactly where its stage has a fault
fails-alike : (s : Stage) (n : ℕ) (p : List ℕ) → has_failed (standing s n p) ≡ is_some (fault_of s)
unfolding has_failed standing
fails-alike Data n p = refl
fails-alike IacSeen n p = refl
fails-alike (Choosing v) n p = refl
fails-alike Opening n p = refl
fails-alike (Payload o) n p = refl
fails-alike (Closing o) n p = refl
fails-alike (Failed f) n p = refl

not-failed : (s : Stage) (n : ℕ) (p : List ℕ) → fault_of s ≡ None → has_failed (standing s n p) ≡ false
not-failed s n p e = fails-alike s n p ∙ ap is_some e

has-failed : (s : Stage) (n : ℕ) (p : List ℕ) (why : Refusal) → fault_of s ≡ Some why → has_failed (standing s n p) ≡ true
has-failed s n p why e = fails-alike s n p ∙ ap is_some e

faults-alike : (s : Stage) (n : ℕ) (p : List ℕ) → refusal_of (standing s n p) ≡ fault_of s
unfolding refusal_of standing
faults-alike Data n p = refl
faults-alike IacSeen n p = refl
faults-alike (Choosing v) n p = refl
faults-alike Opening n p = refl
faults-alike (Payload o) n p = refl
faults-alike (Closing o) n p = refl
faults-alike (Failed f) n p = refl

kind-happened : (k : Option Kind) (p : List ℕ) → kind_of (happened k p) ≡ k
unfolding kind_of happened
kind-happened None p = refl
kind-happened (Some RunKind) p = refl
kind-happened (Some (Command c)) p = refl
kind-happened (Some (Negotiation v o)) p = refl
kind-happened (Some (Subnegotiation o)) p = refl

carried-happened : (k : Option Kind) (n : ℕ) (p : List ℕ) → length p ≡ 1024 → carried_of (happened k (take n p)) ≡ take (payload_length k n) p
unfolding carried_of happened
carried-happened None n p h = refl
carried-happened (Some RunKind) n p h = sym (held-taken n p h)
carried-happened (Some (Command c)) n p h = refl
carried-happened (Some (Negotiation v o)) n p h = refl
carried-happened (Some (Subnegotiation o)) n p h = sym (held-taken n p h)

-- the count that a reader is handed back with
held-standing : (s : Stage) (n : ℕ) (p : List ℕ) → length p ≡ 1024 → standing s (held_count s n) p ≡ standing s n p
unfolding standing
held-standing Data n p h = refl
held-standing IacSeen n p h = refl
held-standing (Choosing v) n p h = refl
held-standing Opening n p h = refl
held-standing (Payload o) n p h = ap (payload o) (held-taken n p h)
held-standing (Closing o) n p h = ap (closing o) (held-taken n p h)
held-standing (Failed f) n p h = refl

pub held-is : (s : Stage) (n : ℕ) (p : List ℕ) → length p ≡ 1024 → held_count s n ≡ length (payload_of (standing s (held_count s n) p))
unfolding standing payload_of
held-is Data n p h = refl
held-is IacSeen n p h = refl
held-is (Choosing v) n p h = refl
held-is Opening n p h = refl
held-is (Payload o) n p h = sym (length-take-le (min n payload_limit) p (omega arith))
held-is (Closing o) n p h = sym (length-take-le (min n payload_limit) p (omega arith))
held-is (Failed f) n p h = refl

-- a call with room, on a reader without a fault, is not idle
pub not-idle : (s : Stage) (n : ℕ) (p room : List ℕ) → 2048 ≤ length room → fault_of s ≡ None → is_idle (standing s n p) room ≡ false
unfolding is_idle
not-idle s n p room h f = rw (le-ltb (length room) 2048 h, not-failed s n p f)

pub idle-short : (s : Stage) (n : ℕ) (p room : List ℕ) → length room < 2048 → is_idle (standing s n p) room ≡ true
unfolding is_idle
idle-short s n p room h = rw (lt-ltb (length room) 2048 h)

pub idle-faulted : (s : Stage) (n : ℕ) (p room : List ℕ) (why : Refusal) → 2048 ≤ length room → fault_of s ≡ Some why → is_idle (standing s n p) room ≡ true
unfolding is_idle
idle-faulted s n p room why h f = rw (le-ltb (length room) 2048 h, has-failed s n p why f)

pub no_room_lem : (m : Mode) (bs room : List ℕ) → length room < 2048 → feed_of m bs room ≡ outcome (sees m (Some NoRoom) 0 0 None 0) room
unfolding feed_of
no_room_lem m bs room h = rw (lt-ltb (length room) 2048 h)

pub faulted : (s : Stage) (n : ℕ) (p bs room : List ℕ) (why : Refusal) → 2048 ≤ length room → fault_of s ≡ Some why
    → feed_of (standing s n p) bs room ≡ outcome (sees (standing s n p) (Some why) 0 0 None 0) room
unfolding feed_of called delivered kind_of carried_of
faulted s n p bs room why h f =
    rw (le-ltb (length room) 2048 h, has-failed s n p why f, faults-alike s n p, f, overwrite-nil room 0)

pub fed : (s : Stage) (n : ℕ) (p bs room : List ℕ) (r : Run) (p' room' : List ℕ) → length p' ≡ 1024 → 2048 ≤ length room → fault_of s ≡ None
    → Ran s n p (take call_limit bs) room r p' room'
    → outcome (sees (standing r.stage r.count p') (fault_of r.stage) r.taken r.length r.kind (payload_length r.kind r.count))
    (overwrite room' r.length (take (payload_length r.kind r.count) p'))
    ≡ feed_of (standing s n p) bs room
unfolding feed_of called delivered
fed s n p bs room r p' room' l h f ran =
    let g : has_failed (standing s n p) ≡ false = not-failed s n p f in
    let c = given (standing s n p) (take call_limit bs) in
    let size = payload_length r.kind r.count in
    let y = carried_of c.event in
    let why : fault_of r.stage ≡ refusal_of c.mode = sym (faults-alike r.stage r.count p') ∙ ap refusal_of ran.mode-is in
    let kind : r.kind ≡ kind_of c.event = sym (kind-happened r.kind (take r.count p')) ∙ ap kind_of ran.event-is in
    let bytes : take size p' ≡ y = sym (carried-happened r.kind r.count p' l) ∙ ap carried_of ran.event-is in
    let most : size ≤ length p' = omega (arith, payload-most r.kind r.count, l) in
    let long : size ≡ length y = sym (length-take-le size p' most) ∙ ap length bytes in
    let short : length c.run ≤ 1024 = omega (arith, ran.length-is, ran.short-is, length-take call_limit bs) in
    let fits : 0 + (length c.run + length y) ≤ length room = omega (arith, long, payload-most r.kind r.count) in
    let after : overwrite (overwrite room 0 c.run) (length c.run) y ≡ overwrite room 0 (c.run ++ y) = rw zero-add at (overwrite-append room 0 c.run y fits) in
    let left : overwrite room' r.length (take size p') ≡ overwrite room 0 (c.run ++ y) = rw (ran.data_is, ran.length-is, bytes) after in
    let mode = ran.mode-is in
    let taken = ran.taken_is in
    let length' = ran.length-is in
    rw (le-ltb (length room) 2048 h, g) cc

-- with the payload put after the data
module _ (s : Stage) (n : ℕ) (p bs room : List ℕ) (r : Run) (p' room' : List ℕ) (h : 2048 ≤ length room)
    (ran : Ran s n p (take call_limit bs) room r p' room') where
  -- there is room for it
  pub room_after : r.length + 1024 ≤ length room'
  room_after =
      let x = (given (standing s n p) (take call_limit bs)).run in
      let short : length x ≤ 1024 = omega (arith, ran.length-is, ran.short-is, length-take call_limit bs) in
      let same : length room' ≡ length room = ap length ran.data_is ∙ length-overwrite room 0 x (omega arith) in
      omega (arith, ran.length-is)

  pub fed-put : length p' ≡ 1024 → fault_of s ≡ None → (why : Option Refusal) (size : ℕ) (left : List ℕ) → why ≡ fault_of r.stage
      → size ≡ payload_length r.kind r.count → left ≡ overwrite room' r.length (take size p')
      → outcome (sees (standing r.stage (held_count r.stage r.count) p') why r.taken r.length r.kind size) left ≡ feed_of (standing s n p) bs room
  fed-put l f why size left e k w = rw (e, w, k, held-standing r.stage r.count p' l) (fed s n p bs room r p' room' l h f ran)
