-- `telnet_feed::put_payload` meets its contract. Assumes nothing.
use mathlib.Core.Path.{sym}
use Rattle.octets.proofs.Front.{empty}
use Rattle.octets.proofs.Overwrite.{overwrite-nil}
use Rattle.octets.proofs.Promise.{put_whole}
use Rattle.telnet_feed.proofs.put_payload.Goals as goal

pub returns-then-payload-eq0 : goal.returns-then-payload-eq0
returns-then-payload-eq0 c =
    let a = c.args in
    rw (empty a.payload.now c.if-payload-eq0.true) (sym (overwrite-nil a.room.now a.at))

pub returns : goal.returns
returns c =
    let a = c.args in
    put_whole a.payload.now a.room.now a.at c.requires c.put.ensures
