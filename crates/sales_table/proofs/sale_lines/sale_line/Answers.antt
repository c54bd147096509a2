use Rattle.std.proofs.Common.{◌≡◌, ℕ, List, ◌∷◌, ◌++◌, Bor, ap, map, ◌∙◌, refl, rules}
use Rattle.std.proofs.lemmas.Result.{IfOk-weaker}
use Rattle.csv.specs.Writing.{default_writer, row_text}
use Rattle.sales_table.specs.Tables.{sale_fields}
use Rattle.sales_table.proofs.Pieces.{cons_same}
use Rattle.sales_table.proofs.sale_lines.sale_line.Goals as goal

pub returns : goal.returns
returns c =
    let fields : List (List ℕ) =
    c.as_bytes.result.now ∷ c.as_bytes-2.result.now ∷ c.as_bytes-3.result.now
    ∷ c.as_bytes-4.result.now ∷ c.as_bytes-5.result.now ∷ c.as_bytes-6.result.now
    ∷ c.as_bytes-7.result.now ∷ c.as_bytes-8.result.now ∷ c.as_bytes-9.result.now
    ∷ c.as_bytes-10.result.now ∷ c.as_bytes-11.result.now ∷ c.as_bytes-12.result.now
    ∷ map (λ (f : Bor (List ℕ)). f.now) c.args.more.now in
    let same : fields ≡ sale_fields c.args.products.now c.args.sold.now
    ++ map (λ (f : Bor (List ℕ)). f.now) c.args.more.now =
    (cons_same _ _ _ _ (search rules)
    (cons_same _ _ _ _ (search rules)
    (cons_same _ _ _ _ (search rules)
    (cons_same _ _ _ _ (search rules)
    (cons_same _ _ _ _ (search rules)
    (cons_same _ _ _ _ (search rules)
    (cons_same _ _ _ _ (search rules)
    (cons_same _ _ _ _ (search rules)
    (cons_same _ _ _ _ (search rules)
    (cons_same _ _ _ _ (search rules)
    (cons_same _ _ _ _ (search rules)
    (cons_same _ _ _ _ (search rules) refl)))))))))))) in
    IfOk-weaker c.csv_line.result (λ line. line.items ≡ row_text default_writer fields) _
    (λ line is. is ∙ ap (row_text default_writer) same) c.csv_line.ensures
