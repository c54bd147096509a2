use Rattle.counter_desk_tests.proofs.tests.crews.run_crews.Given as goal

-- the names are those of the ledger and of the configuration that are handed in
abbrev pub ghosts-run_named-L-Ledger : goal.ghosts-run_named-L-Ledger
ghosts-run_named-L-Ledger g a = record { name = a.blank.name; parts = a.blank.parts }

abbrev pub ghosts-run_named-C-Naming : goal.ghosts-run_named-C-Naming
ghosts-run_named-C-Naming g a = record { config = a.config.now }
