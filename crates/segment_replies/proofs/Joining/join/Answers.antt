use Rattle.std.proofs.Common.{◌≡◌, ℕ, max, ◌&&◌, length, get_or, refl, ap, ◌∙◌, w8, Fits, rules}
use Rattle.segment_replies.proofs.JoiningLaws.{small_all}
use Rattle.segment_replies.proofs.OverlayLaws.{overlays_as}
use Rattle.segment_replies.proofs.Joining.join.Goals as goal

pub returns : goal.returns
returns c =
    let a = c.args in
    let e = c.min-len.ensures in
    let l : length a.reply.bytes ≡ 96 = search rules in
    let f : (i : ℕ) → Fits w8 (get_or a.reply.bytes i 0) = λ i. search rules in
    record {
      count = refl;
      acks = ap (λ b. a.self.now.acks && b) c.is_ack.ensures;
      len = c.max-self.ensures ∙ ap (max a.self.now.len) e;
      bytes = λ h. overlays_as e (c.overlay.ensures h);
      array = (l, small_all a.reply.bytes (λ i. (f i).fits));
    }
