-- A ref's keys, looked up one after the other until one stands for a trip. Assumes nothing.
use Rattle.std.specs.Prelude.{Option, None}
use Prim.Native.Nat.{ℕ}
use mathlib.Core.Path.{◌≡◌, refl, ap, sym, ◌∙◌}
use mathlib.Core.Bool.{true, false}
use mathlib.Core.List.{List, [], ◌∷◌, ◌++◌}
use Rattle.ids.specs.First.{or_else}
use Rattle.key_parts.specs.Keys.{raw_of, without_loc}
use Rattle.text_folds.specs.Folds.{prefix_of}
use Rattle.refs.specs.Refs.{journey_id_of}
use Rattle.uuids.specs.Uuids.{is_uuid}
use Rattle.key_parts.specs.Words.{loc, local_mark}
use Rattle.tables.specs.declared.lent.Aliases.{Aliases}
use Rattle.tables.specs.declared.lent.IdRows.{IdRows}
use Rattle.alias_keys.specs.Aliases.{alias_trip, first_trip, uuid_keys, local_keys, keys_of}
use Rattle.trip_ids.specs.Words.{trip_mark}
use Rattle.alias_keys.specs.Words.{magenta_mark, sncf_mark, stif_mark, local_trip_mark}
use Rattle.trip_ids.proofs.Firsts.{or_nothing, or_or}

module _ (bytes words : List ℕ) (tripkeys : IdRows) (aliases : Aliases) where
  abbrev look : List ℕ → Option ℕ
  look key = alias_trip bytes words tripkeys aliases key

  abbrev all : List (List ℕ) → Option ℕ
  all keys = first_trip bytes words tripkeys aliases keys

  -- the keys of one list, then those of another
  joined : (xs ys : List (List ℕ)) → all (xs ++ ys) ≡ or_else (all xs) (all ys)
  unfolding first_trip
  joined [] ys = refl
  joined (x ∷ xs) ys = ap (or_else (look x)) (joined xs ys) ∙ sym (or_or (look x) (all xs) (all ys))

  -- What is found so far, f, then a key, then the rest: x is what is found with the key.
  next : (f : Option ℕ) (key : List ℕ) (keys : List (List ℕ)) {x : Option ℕ} → x ≡ or_else f (look key) → or_else x (all keys) ≡ or_else f (all (key ∷ keys))
  unfolding first_trip
  next f key keys e = ap (λ (g : Option ℕ). or_else g (all keys)) e ∙ or_or f (look key) (all keys)

  end : (f : Option ℕ) (key : List ℕ) {x : Option ℕ} → x ≡ or_else f (look key) → x ≡ or_else f (all (key ∷ []))
  unfolding first_trip
  end f key e = e ∙ ap (or_else f) (sym (or_nothing (look key)))

  both : (f : Option ℕ) (xs ys : List (List ℕ)) {x : Option ℕ} → x ≡ or_else f (all xs) → or_else x (all ys) ≡ or_else f (all (xs ++ ys))
  both f xs ys e = ap (λ (g : Option ℕ). or_else g (all ys)) e ∙ or_or f (all xs) (all ys) ∙ ap (or_else f) (sym (joined xs ys))

  module _ (j : List ℕ) (f : Option ℕ) where
    pub uuid_keys_lem : {x y z : Option ℕ} → is_uuid j ≡ true → x ≡ or_else f (look (trip_mark ++ j)) → y ≡ or_else x (look (magenta_mark ++ (j ++ loc))) →
        z ≡ or_else y (look (sncf_mark ++ (j ++ loc))) → z ≡ or_else f (all (uuid_keys j))
    unfolding uuid_keys
    uuid_keys_lem {x} {y} {z} p d e g = rw p (end y _ g ∙ next x _ _ e ∙ next f _ _ d)

    pub no_uuid_keys : is_uuid j ≡ false → f ≡ or_else f (all (uuid_keys j))
    unfolding uuid_keys first_trip
    no_uuid_keys p = rw p (sym (or_nothing f))

    pub local_keys_lem : {x y : Option ℕ} → prefix_of local_mark j ≡ true → x ≡ or_else f (look (stif_mark ++ (j ++ loc))) → y ≡ or_else x (look (local_trip_mark ++ j)) →
        y ≡ or_else f (all (local_keys j))
    unfolding local_keys
    local_keys_lem {x} {y} p d e = rw p (end x _ e ∙ next f _ _ d)

    pub no_local_keys : prefix_of local_mark j ≡ false → f ≡ or_else f (all (local_keys j))
    unfolding local_keys first_trip
    no_local_keys p = rw p (sym (or_nothing f))

  pub base_keys : (base raw short j : List ℕ) {u v w x y z : Option ℕ} → raw ≡ raw_of base → short ≡ without_loc raw → j ≡ journey_id_of raw →
      u ≡ or_else None (look base) → v ≡ or_else u (look raw) → w ≡ or_else v (look short) → x ≡ or_else w (look j) →
      y ≡ or_else x (all (uuid_keys j)) → z ≡ or_else y (all (local_keys j)) → z ≡ all (keys_of base)
  unfolding keys_of
  base_keys base raw short j {u} {v} {w} {x} {y} {z} p q r d e g h i k =
      rw (← p, ← q, ← r) (k ∙ both x (uuid_keys j) (local_keys j) i ∙ next w j _ h ∙ next v short _ g ∙ next u raw _ e ∙ next None base _ d)
