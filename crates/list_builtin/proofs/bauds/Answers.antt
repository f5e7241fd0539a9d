-- `list_builtin::bauds` meets its contract.
use mathlib.Core.Path.{refl}
use Rattle.list.specs.Written.{write_texts, write_rest, write_records_value, write_list_value}
use Rattle.list_builtin.specs.Builtins.{id_text, bauds}
use Rattle.list_builtin.proofs.bauds.Goals as goal

pub returns : goal.returns
unfolding bauds id_text write_list_value write_records_value write_rest write_texts
returns c = refl
