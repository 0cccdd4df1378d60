-- The names of objects (Kubernetes, "Object Names and IDs": DNS labels and DNS subdomain names).
use Rattle.std.specs.Prelude.{ℕ, ◌-◌, Bool, ◌&&◌, ◌||◌, ◌==◌, nat_le, List, length, slice_index}
use Rattle.std.specs.List.{list_all}

-- a lower-case ASCII letter or a digit
abbrev pub is_alphanumeric : ℕ → Bool
is_alphanumeric b = (nat_le 97 b && nat_le b 122) || (nat_le 48 b && nat_le b 57)

abbrev pub is_label_byte : ℕ → Bool
is_label_byte b = is_alphanumeric b || b == 45

abbrev pub is_subdomain_byte : ℕ → Bool
is_subdomain_byte b = is_label_byte b || b == 46

-- 1 to `most` bytes that pass the test, the first and the last a letter or a digit
abbrev pub is_name_of : ℕ → (ℕ → Bool) → List ℕ → Bool
is_name_of most allowed s =
    nat_le 1 (length s) && nat_le (length s) most && list_all allowed s
    && is_alphanumeric (slice_index s 0) && is_alphanumeric (slice_index s (length s - 1))

-- RFC 1123: the most bytes of a label
abbrev pub most_label : ℕ
most_label = 63

-- RFC 1123: with `-` inside
unfoldable pub is_dns_label : List ℕ → Bool
is_dns_label s = is_name_of most_label is_label_byte s

-- at most 253 bytes, with `-` and `.` inside; leniently, a `.` may be next to a `-` or another `.`
unfoldable pub is_subdomain_name : List ℕ → Bool
is_subdomain_name s = is_name_of 253 is_subdomain_byte s
