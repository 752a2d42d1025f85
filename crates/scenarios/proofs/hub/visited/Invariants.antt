use Rattle.scenarios.proofs.hub.visited.Given as goal

abbrev pub ghosts-visited_with : goal.ghosts-visited_with
ghosts-visited_with a = record { name = a.blank.name; parts = a.blank.parts }
