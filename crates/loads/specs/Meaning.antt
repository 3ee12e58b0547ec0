-- What the definitions of Counts, Digits and Formats say, resource by resource.
use Rattle.std.specs.Prelude.{◌≡◌, ℕ, ◌-◌, ◌/◌, ◌%◌, ◌^◌, ◌<◌, ◌≤◌, List, length, Decides, slice_index}
use Rattle.loads.specs.Counts.{by_each, within, alike, empty, part_of_excess}
use Rattle.loads.specs.Digits.{digits, number, level, to_bytes, from_bytes}
use Rattle.loads.specs.Formats.{Format, Counted, Lawful, zeros}

pub record Meanings : Type 0 where
  -- as many counts, and each at most the other's
  pub within_is : (xs ys : List ℕ) → Decides (within xs ys) ((length xs ≡ length ys) × ((k : ℕ) → k < length xs → slice_index xs k ≤ slice_index ys k))
  pub alike_is : (xs ys : List ℕ) → Decides (alike xs ys) (xs ≡ ys)
  pub empty_is : (xs : List ℕ) → Decides (empty xs) ((k : ℕ) → k < length xs → slice_index xs k ≡ 0)
  pub each_is : (f : ℕ → ℕ → ℕ) (xs ys : List ℕ) (k : ℕ) → length xs ≡ length ys → k < length xs → slice_index (by_each f xs ys) k ≡ f (slice_index xs k) (slice_index ys k)
  pub each_long : (f : ℕ → ℕ → ℕ) (xs ys : List ℕ) → length xs ≡ length ys → length (by_each f xs ys) ≡ length xs
  -- some resource's total passes the capacity, and the part has some of it
  pub excess_is : (ts cs ps : List ℕ) → length ts ≡ length cs → length cs ≡ length ps
      → Decides (part_of_excess ts cs ps) ((k : ℕ) × (k < length ts) × (slice_index cs k < slice_index ts k) × (0 < slice_index ps k))
  pub digit_is : (b n w k : ℕ) → k < n → slice_index (digits b n w) k ≡ w / b ^ k % b
  pub digits_long : (b n w : ℕ) → length (digits b n w) ≡ n
  -- digits write the number that they are of
  pub number_is : (b n w : ℕ) → 0 < b → w < b ^ n → number b (digits b n w) ≡ w
  pub level_is : (n c k : ℕ) → k < n → slice_index (level n c) k ≡ c
  pub level_long : (n c : ℕ) → length (level n c) ≡ n
  -- the last byte is the lowest
  pub byte_is : (n w k : ℕ) → k < n → slice_index (to_bytes n w) k ≡ w / 256 ^ (n - 1 - k) % 256
  pub bytes_long : (n w : ℕ) → length (to_bytes n w) ≡ n
  pub from_is : (n w : ℕ) → w < 256 ^ n → from_bytes (to_bytes n w) ≡ w
  -- the empty load alone is empty
  pub zeros_is : (f : Format) (cs : List ℕ) → Counted f cs → Decides (empty cs) (cs ≡ zeros f)
  -- of one kind, equal images have equal counts
  pub images_tell : (f : Format) → Lawful f → (cs ds : List ℕ) → Counted f cs → Counted f ds → f.image cs ≡ f.image ds → cs ≡ ds
