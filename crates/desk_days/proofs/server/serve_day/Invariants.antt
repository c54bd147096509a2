use Rattle.desk_days.proofs.server.serve_day.Given as goal

-- the names are those of the ledger and of the configuration that are handed in
abbrev pub ghosts-day_of-L-Ledger : goal.ghosts-day_of-L-Ledger
ghosts-day_of-L-Ledger g a = record { name = a.blank.name; parts = a.blank.parts }

abbrev pub ghosts-day_of-C-Naming : goal.ghosts-day_of-C-Naming
ghosts-day_of-C-Naming g a = record { config = a.config.now }
