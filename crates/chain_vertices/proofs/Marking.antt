-- A turn of the pass that marks rows. Assumes nothing.
use Rattle.std.specs.Prelude.{Option}
use Rattle.lengths.specs.declared.line.Point.{Point}
use Prim.Native.Nat.{ℕ, suc, ◌+◌, ◌/◌, ◌<◌}
use native.Mathlib.Omega.{arith}
use mathlib.Core.Path.{◌≡◌, sym, ap, subst, ◌∙◌}
use mathlib.Core.Bool.{Bool}
use mathlib.Core.List.{List}
use Rattle.chain_lines.specs.declared.kept.Last.{Last}
use Rattle.chain_lines.specs.Kept.{is_kept, after_of, last_of, row_kept}
use Rattle.chain_vertices.specs.Marks.{put_of}
use Rattle.chain_lines.proofs.Thinning.{kept_below, last_row}
use Rattle.chain_vertices.proofs.Bits.{Begun, goes_on}

module _ (stop : ℕ → Option Point) (i : ℕ) (last : Last) (s : Option Point) (keep : Bool) (l : last ≡ last_of (kept_below stop i)) (e : s ≡ stop i) (k : keep ≡ is_kept last s) where
  as_kept : keep ≡ row_kept stop i
  as_kept = k ∙ ap (λ (x : Last). is_kept x s) l ∙ ap (is_kept (last_of (kept_below stop i))) e

  pub marks_next : (n : ℕ) (marks next : List ℕ) → Begun (row_kept stop) n marks i → i / 64 < n → next ≡ put_of marks i keep → Begun (row_kept stop) n next (i + 1)
  marks_next n marks next b room p =
      let j : suc i ≡ i + 1 = omega arith in
      subst (λ (x : List ℕ). Begun (row_kept stop) n x (i + 1)) (sym p) (subst (Begun (row_kept stop) n (put_of marks i keep)) j (goes_on (row_kept stop) n marks i b room keep as_kept))

  pub last_next : (next : Last) → next ≡ after_of last s keep → next ≡ last_of (kept_below stop (i + 1))
  last_next next p = p ∙ sym (last_row stop i ∙ rw (l, e, as_kept))
