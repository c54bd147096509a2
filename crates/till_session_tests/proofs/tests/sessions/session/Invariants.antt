use Rattle.till_session_tests.proofs.tests.sessions.session.Given as goal

-- the names are those of the ledger and of the configuration that are handed in
abbrev pub ghosts-session_of-L-Ledger : goal.ghosts-session_of-L-Ledger
ghosts-session_of-L-Ledger g a = record { name = a.blank.name; parts = a.blank.parts }

abbrev pub ghosts-session_of-C-Naming : goal.ghosts-session_of-C-Naming
ghosts-session_of-C-Naming g a = record { config = a.config.now }
