use Rattle.board_cases.proofs.queries.next_at.Given as goal

abbrev pub ghosts-next_of : goal.ghosts-next_of
ghosts-next_of a = record { name = a.blank.name; parts = a.blank.parts }
