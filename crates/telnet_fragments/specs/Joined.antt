-- "with adjacent runs joined"
use Rattle.std.specs.Prelude.{ℕ, List, [], ◌∷◌, ◌++◌}
use Rattle.telnet.specs.Event.{Event, run, command, negotiation, subnegotiation}

-- data in front of events, joined with a run there
unfoldable pub joins : List ℕ → List Event → List Event
joins [] es = es
joins (d ∷ ds) [] = run (d ∷ ds) ∷ []
joins (d ∷ ds) (run r ∷ es) = run (d ∷ ds ++ r) ∷ es
joins (d ∷ ds) (command c ∷ es) = run (d ∷ ds) ∷ command c ∷ es
joins (d ∷ ds) (negotiation v o ∷ es) = run (d ∷ ds) ∷ negotiation v o ∷ es
joins (d ∷ ds) (subnegotiation o p ∷ es) = run (d ∷ ds) ∷ subnegotiation o p ∷ es

-- events, with adjacent runs joined
unfoldable pub joined : List Event → List Event
joined [] = []
joined (run r ∷ es) = joins r (joined es)
joined (command c ∷ es) = command c ∷ joined es
joined (negotiation v o ∷ es) = negotiation v o ∷ joined es
joined (subnegotiation o p ∷ es) = subnegotiation o p ∷ joined es
