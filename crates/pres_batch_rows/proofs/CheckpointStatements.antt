-- What the statements of a checkpoint mean.
use Rattle.std.proofs.Common.{◌≡◌, ℕ, pos, negsuc, List, [], ◌∷◌, ◌++◌, codes, false, None, Ok, refl, sym, subst}
use Rattle.sqlite.specs.declared.types.Value.TheVariants.{Null, Int}
use Rattle.sqlite.specs.Schema.{Schema}
use Rattle.sqlite.specs.Table.{Table}
use Rattle.sqlite.specs.Term.{Term, lit, col}
use Rattle.sqlite_schema.specs.declared.schema.Index.{Index}
use Rattle.sqlite_schema.specs.declared.schema.View.{View}
use Rattle.sqlite.specs.Query.{Query, inner, end}
use Rattle.sqlite.specs.Source.TheVariants.{Values}
use Rattle.sqlite_schema.specs.declared.command.Command.{Command}
use Rattle.sqlite_schema.specs.declared.command.Command.TheVariants.{Insert, Select, Delete}
use Rattle.sqlite.specs.Compile.{table_defined_by}
use Rattle.sqlite_tied.specs.Compute.{everything}
use Rattle.sqlite.specs.Listing.{understood, reads_listing}
use Rattle.sqlite.proofs.Callers.{IsPlain, command_of}
use Rattle.pres_batch_rows.specs.Schemas.{checkpoint, saved_schema, checkpoint_schema}
use Rattle.pres_batch_rows.specs.TableStates.{HasOurTables, HasThreeTables}
use Rattle.pres_batch_rows.specs.TableCreation.{checkpoint_text}

pub checkpoint_is : table_defined_by checkpoint_text ≡ Ok checkpoint
unfolding understood everything
checkpoint_is = refl

-- the rows of a table, by their numbers or as they are shown
abbrev pub queried : ℕ → List Term → Query
queried tree project = record {
  from = inner tree end;
  filter = [];
  group = None;
  project = project;
  distinct = false;
  collations = [];
  order = [];
  limit = lit (Int (negsuc 0));
  offset = lit (Int (pos 0));
}

abbrev pub picked : ℕ → Query
picked tree = queried tree (col 1 0 ∷ [])

abbrev pub columns : List Term
columns = col 1 0 ∷ col 1 2 ∷ col 1 3 ∷ []

abbrev pub delete_text : List ℕ
delete_text = codes "DELETE FROM batch"

abbrev pub clear_text : List ℕ
clear_text = codes "DELETE FROM checkpoint"

abbrev pub put_text : List ℕ
put_text = codes "INSERT INTO checkpoint(k, moment, body) VALUES(?1, ?2, ?3)"

abbrev pub base_text : List ℕ
base_text = codes "SELECT k, moment, body FROM checkpoint"

abbrev pub terms : List Term
terms = col 0 0 ∷ lit Null ∷ col 0 1 ∷ col 0 2 ∷ []

-- a text is understood as this command, and is plain
abbrev pub Means : Schema → List ℕ → Command → Type 0
Means schema text command = (command_of (understood schema text) ≡ command) × IsPlain (understood schema text)

-- ---- our tables, and others beside them

abbrev beside_two : List Table → List Index → List View → Schema
beside_two others indexes views = record { tables = saved_schema.tables ++ others; indexes = indexes; views = views }

abbrev beside_three : List Table → List Index → List View → Schema
beside_three others indexes views = record { tables = checkpoint_schema.tables ++ others; indexes = indexes; views = views }

delete_beside : (others : List Table) (indexes : List Index) (views : List View) → Means (beside_two others indexes views) delete_text (Delete 1 (record { lets = []; body = picked 2 }))
unfolding understood everything
delete_beside others indexes views = (refl, (refl, refl))

pub delete_is : (schema : Schema) → HasOurTables schema → Means schema delete_text (Delete 1 (record { lets = []; body = picked 2 }))
delete_is schema ours = subst (λ tables. Means (record schema { tables = tables }) delete_text (Delete 1 (record { lets = []; body = picked 2 }))) (sym ours.tables) (delete_beside ours.others schema.indexes schema.views)

clear_beside : (others : List Table) (indexes : List Index) (views : List View) → Means (beside_three others indexes views) clear_text (Delete 2 (record { lets = []; body = picked 3 }))
unfolding understood everything
clear_beside others indexes views = (refl, (refl, refl))

put_beside : (others : List Table) (indexes : List Index) (views : List View) → Means (beside_three others indexes views) put_text (Insert 2 (Values terms 4))
unfolding understood everything
put_beside others indexes views = (refl, (refl, refl))

abbrev IsReading : Schema → Type 0
IsReading schema = Means schema base_text (Select (record { lets = []; body = queried 3 columns }) (codes "k" ∷ codes "moment" ∷ codes "body" ∷ [])) × (reads_listing schema base_text ≡ false)

base_beside : (others : List Table) (indexes : List Index) (views : List View) → IsReading (beside_three others indexes views)
unfolding understood everything
base_beside others indexes views = ((refl, (refl, refl)), refl)

module _ (schema : Schema) (three : HasThreeTables schema) where
  pub clear_is : Means schema clear_text (Delete 2 (record { lets = []; body = picked 3 }))
  clear_is = subst (λ tables. Means (record schema { tables = tables }) clear_text (Delete 2 (record { lets = []; body = picked 3 }))) (sym three.tables) (clear_beside three.others schema.indexes schema.views)

  pub put_is : Means schema put_text (Insert 2 (Values terms 4))
  put_is = subst (λ tables. Means (record schema { tables = tables }) put_text (Insert 2 (Values terms 4))) (sym three.tables) (put_beside three.others schema.indexes schema.views)

  pub base_is : IsReading schema
  base_is = subst (λ tables. IsReading (record schema { tables = tables })) (sym three.tables) (base_beside three.others schema.indexes schema.views)
