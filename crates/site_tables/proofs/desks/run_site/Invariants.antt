use Rattle.site_tables.proofs.desks.run_site.Given as goal

-- the names are those of the ledger and of the configuration that are handed in
abbrev pub ghosts-at_desk-L-Ledger : goal.ghosts-at_desk-L-Ledger
ghosts-at_desk-L-Ledger g a = record { name = a.blank.name; parts = a.blank.parts }

abbrev pub ghosts-at_desk-C-Naming : goal.ghosts-at_desk-C-Naming
ghosts-at_desk-C-Naming g a = record { config = a.config.now }
