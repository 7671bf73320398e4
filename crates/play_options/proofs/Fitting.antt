-- The commands of both ends on their lines, by whether there is room for them. Assumes nothing.
use mathlib.Core.Path.{◌≡◌, ap, ◌∙◌}
use mathlib.Core.Bool.{Bool, false}
use mathlib.Core.List.{List}
use Prim.Native.Nat.{ℕ, ◌≤◌, ◌<◌}
use lib.ListN.{length}
use borrow.Author.Tests.{le-leb, lt-leb}
use Rattle.octets.specs.Lent.{Outcome, outcome}
use Rattle.octets.specs.Promise.{put_at}
use Rattle.octets.proofs.Promise.{put-fits}
use Rattle.telnet.specs.Write.{written, written_all}
use Rattle.play_options.specs.declared.Commands.{Commands}
use Rattle.play_options.specs.Negotiated.{requests, answers, exchanged, Negotiated}

module _ (down up : List ℕ) where
  pub no-room-down : length down < 18 → Negotiated down up false down up
  no-room-down h =
      let short = lt-leb 18 (length down) h in
      record { on = rw short; sent_down = rw short; sent_up = rw short }

  module _ (h : 18 ≤ length down) where
    pub no-room-up : length up < 18 → Negotiated down up false down up
    no-room-up g =
        let room = le-leb 18 (length down) h in
        let short = lt-leb 18 (length up) g in
        record { on = rw (room, short); sent_down = rw (room, short); sent_up = rw (room, short) }

    pub both-put : 18 ≤ length up → {x : Commands} {s t : Bool} {down' up' : List ℕ} → x ≡ exchanged → outcome s down' ≡ put_at x.down down 0
        → outcome t up' ≡ put_at x.up up 0 → Negotiated down up x.rests down' up'
    unfolding written written_all
    both-put g {x = x} is first second =
        let room = le-leb 18 (length down) h in
        let too = le-leb 18 (length up) g in
        let put-down = first ∙ ap (λ (y : Commands). put_at y.down down 0) is ∙ put-fits (written_all requests) down 0 h in
        let put_up = second ∙ ap (λ (y : Commands). put_at y.up up 0) is ∙ put-fits (written_all answers) up 0 g in
        record {
          on = rw (room, too) (ap (λ (y : Commands). y.rests) is);
          sent_down = rw (room, too) (ap (λ (o : Outcome Bool). o.lent) put-down);
          sent_up = rw (room, too) (ap (λ (o : Outcome Bool). o.lent) put_up);
        }
