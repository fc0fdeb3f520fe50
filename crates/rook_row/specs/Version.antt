-- FORMAT 7.7. The version of the C interface as a number. It is ours: no paper has one. A minor version is a series:
-- within it no call changes its form, in another one it may; an added call or kind raises the patch.
use Rattle.std.specs.Prelude.{ℕ, ◌+◌, ◌*◌}

abbrev pub version_number : ℕ → ℕ → ℕ → ℕ
version_number major minor patch = 65536 * major + 256 * minor + patch

abbrev pub version : ℕ
version = version_number 0 4 0
