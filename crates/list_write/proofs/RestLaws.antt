-- The parts of a record, one behind the other, are its rest.
use mathlib.Core.Path.{◌≡◌, sym, ap, ◌∙◌}
use mathlib.Core.List.{List, ◌++◌, append-nil, append_assoc}
use Prim.Native.Nat.{ℕ}
use Rattle.list.specs.Layout.{Listed}
use Rattle.list.specs.Written.{write_texts, write_rest}
use Rattle.list_write.specs.ProgramRecord.{counted, front_of_value}

pub rest-is : (r : Listed) → front_of_value r ++ counted r.manufacturer ++ counted r.medium ++ counted r.fault ≡ write_rest r
unfolding front_of_value write_rest write_texts
rest-is r =
    append_assoc (front_of_value r ++ counted r.manufacturer) (counted r.medium) (counted r.fault)
    ∙ append_assoc (front_of_value r) (counted r.manufacturer) (counted r.medium ++ counted r.fault)
    ∙ ap (λ (x : List ℕ). front_of_value r ++ (counted r.manufacturer ++ (counted r.medium ++ x))) (sym (append-nil (counted r.fault)))
