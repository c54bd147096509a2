use Rattle.std.proofs.Common.{◌≡◌, ℕ, List, [], ◌∷◌, ap, ◌∙◌, refl, rules}
use Rattle.std.proofs.lemmas.Result.{IfOk-weaker}
use Rattle.csv.specs.Writing.{default_writer, row_text}
use Rattle.sales_table.proofs.Pieces.{cons_same}
use Rattle.meter_table.specs.Tables.{run_fields}
use Rattle.meter_table.proofs.gap_lines.run_line.Goals as goal

pub returns : goal.returns
returns c =
    let fields : List (List ℕ) =
    c.deref.result.now ∷ c.as_bytes.result.now ∷ c.as_bytes-2.result.now ∷
    c.time_field.result.now ∷ c.as_bytes-3.result.now ∷ c.as_bytes-4.result.now ∷
    c.deref-2.result.now ∷ c.as_bytes-5.result.now ∷ c.as_bytes-6.result.now ∷
    c.as_bytes-7.result.now ∷ c.deref-3.result.now ∷ c.as_bytes-8.result.now ∷ [] in
    let same : fields ≡ run_fields c.args.x.now =
    (cons_same _ _ _ _ (search rules)
    (cons_same _ _ _ _ (search rules)
    (cons_same _ _ _ _ (search rules)
    (cons_same _ _ _ _ (search rules)
    (cons_same _ _ _ _ (search rules)
    (cons_same _ _ _ _ (search rules)
    (cons_same _ _ _ _ (search rules)
    (cons_same _ _ _ _ (search rules)
    (cons_same _ _ _ _ (search rules)
    (cons_same _ _ _ _ (search rules)
    (cons_same _ _ _ _ (search rules)
    (cons_same _ _ _ _ (search rules) refl)))))))))))) in
    IfOk-weaker c.csv_line.result (λ line. line.items ≡ row_text default_writer fields) _
    (λ line is. is ∙ ap (row_text default_writer) same) c.csv_line.ensures
