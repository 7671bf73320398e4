-- `run_listing::show` is safe: what is printed lies within the buffer. Assumes nothing.
use mathlib.Core.Path.{sym}
use lib.Seq.{length-take-le}
use Rattle.octets.proofs.Promise.{front-within}
use Rattle.run_listing.proofs.show.Goals as goal

pub slice_bounds-out-end : goal.slice_bounds-out-end
slice_bounds-out-end c = front-within _ _ c.print-n.ensures

pub slice_bounds-show_last-end : goal.slice_bounds-show_last-end
slice_bounds-show_last-end c =
    let p = c.print-n in
    sym (length-take-le p.result p.new.out (front-within _ _ p.ensures))
