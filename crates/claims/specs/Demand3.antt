-- The owner's demand 3, word for word:
--
-- "Take one carried option on one side and two ends under our option rules, both fresh, with nothing under way. Lines
-- keep order and lose nothing. The calls are each end's requests for on and for off, refused ones included, and its
-- receipts of the oldest command on the way to it, each accepting or declining. Each call gets the state that the last
-- one at its end handed back; nothing else writes or resets it. For every list of these calls, in whatever order the
-- ends make them, this holds after it. At most two commands are under way in each direction. When none is, both ends
-- rest, both on or both off. All commands sent are at most twice the requests not refused. After any list that leaves
-- both off and nothing under way, let one end request on, with no other request until nothing is under way again. That
-- takes exactly two receipts of a command, and both are then on exactly if the other end accepted, else both off."
--
-- `option_ends/specs/Agreement.antt` renders it clause by clause, over the model of `option_ends/specs/Ends.antt` and
-- the table of `option_rules/specs/Table.antt`.
use Rattle.option_ends.specs.Agreement as Agreement

pub record Demand3 : Type 0 where
  pub agreed : Agreement.Demand3
  -- and "at most twice" is no looser than it must be: it is attained by a list with every refusal in it
  pub attained : Agreement.BoundAttained
