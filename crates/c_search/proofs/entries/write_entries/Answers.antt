-- `c_search::entries::write_entries` meets its contract.
use mathlib.Core.Path.{◌≡◌, refl, sym, ap, subst, ◌∙◌}
use mathlib.Core.List.{List, ◌++◌, append_assoc}
use Prim.Native.Nat.{ℕ, ◌+◌, ◌-◌, ◌*◌, ◌≤◌}
use native.Mathlib.Omega.{arith}
use lib.ListN.{length, take, drop}
use lib.Seq.{paste, length-paste, take_all, drop-drop}
use borrow.Author.Rules.{rules}
use Rattle.list_open.specs.Opening.{most_meters}
use Rattle.laws.proofs.Sweep.{length_mapped}
use Rattle.laws.proofs.Rows.{Rows, rows_begin, rows_more}
use Rattle.c_search.specs.Searches.{entry_bytes_value}
use Rattle.c_search.proofs.SearchLaws.{length_entry}
use Rattle.c_search.proofs.entries.write_entries.Goals as goal

-- the bytes b in the place of k others
pasted : (d : List ℕ) (a k : ℕ) (b x : List ℕ) → k ≡ length b → x ≡ b → take a d ++ (x ++ drop k (drop a d)) ≡ paste d a b k
pasted d a k b x n e =
    ap (λ (y : List ℕ). take a d ++ (y ++ drop k (drop a d))) (e ∙ sym (take_all k b (omega arith)))
    ∙ ap (λ (y : List ℕ). take a d ++ (take k b ++ y)) (drop-drop k a d)
    ∙ sym (append_assoc (take a d) (take k b) (drop (a + k) d))

pub loop-i-init : goal.loop-i-init
loop-i-init c = record { long = refl; rows = rows_begin entry_bytes_value 16 length_entry }

pub loop-i-preserved : goal.loop-i-preserved
loop-i-preserved c =
    let at = c.loop-i in
    let inv = at.invariant in
    let b = c.entry_bytes.result in
    let w : length b ≡ 16 = search rules in
    let n : length c.args.found.now ≡ most_meters = search (rules, length_mapped) in
    let h : 16 * at.i + 16 ≤ length at.lent = omega arith in
    let k : 16 * at.i + 16 - 16 * at.i ≡ 16 = omega arith in
    let e = pasted at.lent (16 * at.i) _ b c.copy_from_slice.new.self (k ∙ sym w) c.copy_from_slice.ensures.after ∙ ap (paste at.lent (16 * at.i) b) k in
    record {
      long = ap length e ∙ length-paste at.lent (16 * at.i) b 16 h (omega arith) ∙ inv.long;
      rows = subst (Rows entry_bytes_value 16 _ _ (at.i + 1)) (sym e) (rows_more entry_bytes_value 16 length_entry inv.rows b _ (omega arith) c.entry_bytes.ensures);
    }
