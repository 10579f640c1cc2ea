-- The token of a line: of a route id, or of a journey ref. An empty text stands for none. Tokens are written in upper case.
use Rattle.std.specs.Prelude.{ℕ, ◌&&◌, cond, List, [], leb, eqb, length, get_or}
use Rattle.parts.specs.Parts.{after_last, or_text}
use Rattle.refs.specs.Refs.{journey_id_of}
use Rattle.product_codes.specs.Codes.{product_code}

-- five bytes at least, of which the first is 'C'
unfoldable pub ref_token : List ℕ → List ℕ
ref_token s = cond (leb 5 (length s) && eqb (get_or s 0 0) 67) s []

-- the token of a journey ref: the last of its id's parts between dots
unfoldable pub journey_token : List ℕ → List ℕ
journey_token base = ref_token (after_last 46 (journey_id_of base))

-- the route's token, or else the journey's
unfoldable pub token_of : List ℕ → List ℕ → List ℕ
token_of route base = or_text (product_code route) (journey_token base)
