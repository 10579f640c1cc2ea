-- The keys of a stop's name, looked up one after the other until one stands for a stop. Assumes nothing.
use Rattle.std.specs.Prelude.{Option, None}
use Prim.Native.Nat.{ℕ}
use mathlib.Core.Path.{◌≡◌, refl, ap, sym, ◌∙◌}
use mathlib.Core.Bool.{true, false}
use mathlib.Core.List.{List, [], ◌∷◌, ◌++◌, append_assoc}
use lib.Dec.{eqb}
use lib.ListN.{length}
use Rattle.ids.specs.First.{or_else}
use Rattle.texts.specs.Texts.{holds}
use Rattle.stop_digits.specs.Stops.{stop_digits_of}
use Rattle.key_parts.specs.Words.{low_feed, high_feed}
use Rattle.trip_ids.proofs.Firsts.{or_nothing, or_or}
use Rattle.stop_keys.specs.Names.{feed_keys, plain_keys, digit_keys, text_keys, stop_keys, stop_at, first_stop, named_stop}
use Rattle.stop_keys.specs.Words.{place_mark, point_mark}
use Rattle.stop_rows.specs.declared.lookup.Lookup.{Lookup}

-- the feed, ':' and the name, each put after what stands already
pub composed : (feed s : List ℕ) {x y z : List ℕ} → x ≡ feed → y ≡ x ++ (58 ∷ []) → z ≡ y ++ s → z ≡ feed ++ (58 ∷ s)
composed feed s p q r = r ∙ ap (λ (k : List ℕ). k ++ s) (q ∙ ap (λ (k : List ℕ). k ++ (58 ∷ [])) p) ∙ simp append_assoc

module _ (bytes words : List ℕ) (l : Lookup) where
  abbrev look : List ℕ → Option ℕ
  look key = stop_at bytes words l key

  abbrev all : List (List ℕ) → Option ℕ
  all keys = first_stop bytes words l keys

  -- the keys of one list, then those of another
  joined : (xs ys : List (List ℕ)) → all (xs ++ ys) ≡ or_else (all xs) (all ys)
  unfolding first_stop
  joined [] ys = refl
  joined (x ∷ xs) ys = ap (or_else (look x)) (joined xs ys) ∙ sym (or_or (look x) (all xs) (all ys))

  -- What is found so far, f, then a key, then the rest: x is what is found with the key.
  next : (f : Option ℕ) (key : List ℕ) (keys : List (List ℕ)) {x : Option ℕ} → x ≡ or_else f (look key) → or_else x (all keys) ≡ or_else f (all (key ∷ keys))
  unfolding first_stop
  next f key keys e = ap (λ (g : Option ℕ). or_else g (all keys)) e ∙ or_or f (look key) (all keys)

  end : (f : Option ℕ) (key : List ℕ) {x : Option ℕ} → x ≡ or_else f (look key) → x ≡ or_else f (all (key ∷ []))
  unfolding first_stop
  end f key e = e ∙ ap (or_else f) (sym (or_nothing (look key)))

  both : (f : Option ℕ) (xs ys : List (List ℕ)) {x : Option ℕ} → x ≡ or_else f (all xs) → or_else x (all ys) ≡ or_else f (all (xs ++ ys))
  both f xs ys e = ap (λ (g : Option ℕ). or_else g (all ys)) e ∙ or_or f (all xs) (all ys) ∙ ap (or_else f) (sym (joined xs ys))

  pub feed_keys_lem : (feed d : List ℕ) (f : Option ℕ) {w x y z : Option ℕ} → w ≡ or_else f (look (feed ++ (58 ∷ d))) → x ≡ or_else w (look (feed ++ (58 ∷ high_feed ++ d))) →
      y ≡ or_else x (look (feed ++ (58 ∷ place_mark ++ d))) → z ≡ or_else y (look (feed ++ (58 ∷ high_feed ++ (point_mark ++ d)))) → z ≡ or_else f (all (feed_keys feed d))
  feed_keys_lem feed d f {w} {x} {y} {z} p q r s = end y _ s ∙ next x _ _ r ∙ next w _ _ q ∙ next f _ _ p

  pub plain_keys_lem : (d : List ℕ) (f : Option ℕ) {u v w x y z : Option ℕ} → u ≡ or_else f (look (high_feed ++ d)) → v ≡ or_else u (look (place_mark ++ d)) → w ≡ or_else v (look (point_mark ++ d)) →
      x ≡ or_else w (look d) → y ≡ or_else x (look (low_feed ++ (place_mark ++ d))) → z ≡ or_else y (look (low_feed ++ (high_feed ++ d))) → z ≡ or_else f (all (plain_keys d))
  plain_keys_lem d f {u} {v} {w} {x} {y} {z} p q r s t e = end y _ e ∙ next x _ _ t ∙ next w _ _ s ∙ next v _ _ r ∙ next u _ _ q ∙ next f _ _ p

  module _ (feed text : List ℕ) (f : Option ℕ) {x : Option ℕ} (own : x ≡ or_else f (look text)) where
    pub no_digits : eqb (length (stop_digits_of text)) 0 ≡ true → x ≡ or_else f (all (text_keys feed text))
    unfolding text_keys digit_keys
    no_digits e = rw e (end f text own)

    pub some_digits : eqb (length (stop_digits_of text)) 0 ≡ false → {y z : Option ℕ} → y ≡ or_else x (all (feed_keys feed (stop_digits_of text))) →
        z ≡ or_else y (all (plain_keys (stop_digits_of text))) → z ≡ or_else f (all (text_keys feed text))
    unfolding text_keys digit_keys
    some_digits e {y} {z} p q =
        let d = stop_digits_of text in rw e (q ∙ both x (feed_keys feed d) (plain_keys d) p ∙ next f text _ own)

  module _ (feed s : List ℕ) {x : Option ℕ} (own : x ≡ or_else None (all (text_keys feed s))) where
    pub own_keys : holds (58 ∷ []) s ≡ true → x ≡ named_stop bytes words l feed s
    unfolding named_stop stop_keys first_stop
    own_keys e = own ∙ sym (rw e (joined (text_keys feed s) [] ∙ or_nothing (all (text_keys feed s))))

    pub feed_too : holds (58 ∷ []) s ≡ false → {text : List ℕ} → text ≡ feed ++ (58 ∷ s) → {y : Option ℕ} → y ≡ or_else x (all (text_keys feed text)) → y ≡ named_stop bytes words l feed s
    unfolding named_stop stop_keys
    feed_too e {text} t {y} p = rw e (rw t at p ∙ both None (text_keys feed s) (text_keys feed (feed ++ (58 ∷ s))) own)
