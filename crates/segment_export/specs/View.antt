-- What the program's export answers, in the terms of the definitions.
use Rattle.std.specs.Prelude.{List, ℕ, Result}
use Rattle.laws.specs.Refusal.{refused_room, refused_high_primary, number_of_answer, count_of_answer}
use Rattle.segment_export.specs.Export.{Exported}
use Rattle.segment_export.specs.declared.ExportError.{ExportError}
use Rattle.segment_export.specs.declared.ExportError.TheVariants.{HighPrimary, NoRoom}

-- why it was refused, as a number. 18: a primary above 250; 12: lent bytes too few
abbrev pub export_error_number : ExportError → ℕ
export_error_number HighPrimary = refused_high_primary
export_error_number NoRoom = refused_room

-- its number. 0: accepted
abbrev pub exporting_number_value : Result ℕ ExportError → ℕ
exporting_number_value answer = number_of_answer export_error_number answer

-- how many bytes it wrote
abbrev pub exporting_count_value : Result ℕ ExportError → ℕ
exporting_count_value answer = count_of_answer answer

-- a number, how many bytes, and the lent bytes afterwards
abbrev pub exported_by : ℕ → ℕ → List ℕ → Exported
exported_by number count lent = record { number = number; count = count; lent = lent }
