-- What the statements on the format mean.
use Rattle.std.proofs.Common.{◌≡◌, pos, negsuc, List, [], ◌∷◌, ◌++◌, codes, false, None, refl, sym, subst}
use Rattle.sqlite.specs.Collation.TheVariants.{Binary}
use Rattle.sqlite.specs.declared.types.Value.TheVariants.{Int, Text}
use Rattle.sqlite.specs.Schema.{Schema}
use Rattle.sqlite.specs.Table.{Table}
use Rattle.sqlite.specs.Term.{Term, lit, col, op2}
use Rattle.sqlite.specs.Query.{Query, inner, end}
use Rattle.sqlite_sql.specs.declared.ops.BinaryOp.TheVariants.{Compare}
use Rattle.sqlite_sql.specs.declared.ops.CompareOp.TheVariants.{Eq}
use Rattle.sqlite_schema.specs.declared.schema.Index.{Index}
use Rattle.sqlite_schema.specs.declared.schema.View.{View}
use Rattle.sqlite_schema.specs.declared.command.Command.TheVariants.{Select, Update}
use Rattle.sqlite_tied.specs.Compute.{everything}
use Rattle.sqlite.specs.Listing.{understood, reads_listing}
use Rattle.pres_batch_rows.specs.Schemas.{saved_schema}
use Rattle.pres_batch_rows.specs.TableStates.{HasOurTables}
use Rattle.pres_batch_rows.specs.TableCreation.{raise_text}
use Rattle.pres_batch_rows.specs.TableOpening.{format_text}
use Rattle.pres_batch_rows.proofs.CheckpointStatements.{Means}

-- of the rows of the table meta, those whose name is format
abbrev named : List Term → Query
named project = record {
  from = inner 0 end;
  filter = op2 (Compare Eq Binary) (col 1 1) (lit (Text (codes "format"))) ∷ [];
  group = None;
  project = project;
  distinct = false;
  collations = [];
  order = [];
  limit = lit (Int (negsuc 0));
  offset = lit (Int (pos 0));
}

-- the rowid of each, and the row that it becomes
abbrev pub raised : Query
raised = named (col 1 0 ∷ col 1 0 ∷ col 1 1 ∷ lit (Int (pos 3)) ∷ [])

-- the value of each
abbrev pub asked : Query
asked = named (col 1 2 ∷ [])

abbrev beside : List Table → List Index → List View → Schema
beside others indexes views = record { tables = saved_schema.tables ++ others; indexes = indexes; views = views }

abbrev IsRaising : Schema → Type 0
IsRaising schema = Means schema raise_text (Update 0 (record { lets = []; body = raised }))

raise_beside : (others : List Table) (indexes : List Index) (views : List View) → IsRaising (beside others indexes views)
unfolding understood everything
raise_beside others indexes views = (refl, (refl, refl))

abbrev IsAsking : Schema → Type 0
IsAsking schema = Means schema format_text (Select (record { lets = []; body = asked }) (codes "value" ∷ [])) × (reads_listing schema format_text ≡ false)

format_beside : (others : List Table) (indexes : List Index) (views : List View) → IsAsking (beside others indexes views)
unfolding understood everything
format_beside others indexes views = ((refl, (refl, refl)), refl)

module _ (schema : Schema) (ours : HasOurTables schema) where
  pub raise_is : IsRaising schema
  raise_is = subst (λ tables. IsRaising (record schema { tables = tables })) (sym ours.tables) (raise_beside ours.others schema.indexes schema.views)

  pub format_is : IsAsking schema
  format_is = subst (λ tables. IsAsking (record schema { tables = tables })) (sym ours.tables) (format_beside ours.others schema.indexes schema.views)
