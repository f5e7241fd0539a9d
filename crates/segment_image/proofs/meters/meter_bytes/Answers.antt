-- `segment_image::meters::meter_bytes` meets its contract.
use mathlib.Core.Path.{◌≡◌, refl, ap, ◌∙◌}
use mathlib.Core.List.{List}
use Prim.Native.Nat.{ℕ, ◌<◌, ◌^◌}
use borrow.Author.Rules.{rules}
use Rattle.std.specs.Int.{Width, w16, w32, byte_len, to_le_bytes}
use Rattle.numbers.specs.Values.{little}
use Rattle.numbers.specs.Number.{number}
use Rattle.numbers.proofs.LeBytes.{little_bytes}
use Rattle.numbers.proofs.NumberLaws.{number-little}
use Rattle.meter.specs.Kinds.{model_by, fault_by}
use Rattle.segment_image.specs.MeterBytes.{flag_by, last_by}
use Rattle.laws.proofs.Lists.{bit_from}
use Rattle.segment_image.proofs.MeterByteLaws.{meter-is, bytes_are, flag_back, model_back, fault_back, last_back}
use Rattle.segment_image.proofs.meters.meter_bytes.Goals as goal

-- the bytes of a number, which mean it
back : (w : Width) {bs : List ℕ} {v : ℕ} → bs ≡ to_le_bytes w v → v < 256 ^ byte_len w → (bs ≡ little (byte_len w) v) × (number (byte_len w) 0 bs ≡ v)
back w {bs} {v} e h = let g = e ∙ little_bytes w v in (g, ap (number (byte_len w) 0) g ∙ number-little (byte_len w) v h)

pub returns : goal.returns
unfolding number
returns c =
    let m = c.args.m in
    let id = back w32 c.to_le_bytes-id.ensures (search rules) in
    let manufacturer = back w16 c.to_le_bytes-manufacturer.ensures (search rules) in
    let baud = back w32 c.to_le_bytes-baud.ensures (search rules) in
    let seed = back w32 c.to_le_bytes-seed.ensures (search rules) in
    let model = c.from.ensures in
    let fault = c.from-2.ensures in
    let selected = c.from-3.ensures ∙ bit_from m.state.selected in
    let last = c.last_byte.ensures in
    let hearing = c.from-4.ensures ∙ bit_from m.state.hearing in (
      bytes_are m _ _ _ _ _ _ _ _ _ id.0 manufacturer.0 baud.0 seed.0 model fault selected last hearing,
      meter-is _ m refl id.1 manufacturer.1 refl refl
          (ap model_by model ∙ model_back m.built.model) (ap fault_by fault ∙ fault_back m.built.fault) refl baud.1
          (ap flag_by selected ∙ flag_back m.state.selected) refl (ap last_by last ∙ last_back m.state.last) refl seed.1
          (ap flag_by hearing ∙ flag_back m.state.hearing),
    )
