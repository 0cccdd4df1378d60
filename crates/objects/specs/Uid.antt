-- UIDs and resource versions as texts. A UID is `00000000-0000-4000-8000-` and twelve lower-case hexadecimal
-- digits of a number that is not 0; a resource version is a decimal without leading zeros, from 1 on.
use Rattle.std.specs.Prelude.{ℕ, ◌+◌, ◌*◌, ◌^◌, ◌&&◌, ◌==◌, nat_lt, List, [], ◌++◌, drop, slice_index, fold, codes, bytes_eq, Option, Some, None, unwrap_or, if◌then◌else◌}
use Rattle.std.specs.Str.{all_ascii_digits}
use Rattle.std.specs.Str.Parse.{digits_value}
use Rattle.std.specs.Int.{w64, to_be_bytes}
use Rattle.hex.specs.Hex.{encode_lower, hex_digit_value}

abbrev pub uid_prefix : List ℕ
uid_prefix = codes "00000000-0000-4000-8000-"

-- the six low bytes as hexadecimal digits, the highest first
abbrev pub twelve_digits : ℕ → List ℕ
twelve_digits n = encode_lower (drop 2 (to_be_bytes w64 n))

-- the text of a UID; of 0, which stands for none, the empty text
unfoldable pub uid_text : ℕ → List ℕ
uid_text n = if n == 0 then [] else uid_prefix ++ twelve_digits n

-- the value of hexadecimal digits
abbrev pub hex_value : List ℕ → ℕ
hex_value = fold (λ n b. 16 * n + unwrap_or (hex_digit_value b) 0) 0

-- the number whose text this is
unfoldable pub uid_number : List ℕ → Option ℕ
uid_number s =
    let n = hex_value (drop 24 s) in
    if nat_lt 0 n && nat_lt n (2 ^ 48) && bytes_eq s (uid_text n) then Some n else None

-- the number of a resource version, or 0 if the text has another form
unfoldable pub version_number : List ℕ → ℕ
version_number s =
    if nat_lt 48 (slice_index s 0) && all_ascii_digits s && nat_lt (digits_value 10 s) (2 ^ 64) then digits_value 10 s else 0
