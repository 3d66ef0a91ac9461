-- Bytes that are asked for are a part of a file's version.
use Rattle.std.proofs.Common.{◌≡◌, List, Option, Some, option_and_then, ap, ◌∙◌}
use Rattle.arn_base.specs.declared.records.Record.{Record}
use Rattle.parts_model.specs.declared.tagged.TaggedByte.{TaggedByte}
use Rattle.query_model.specs.Names.{Named, named_bytes, part_of, version_of}

pub named-is : (entries : List Record) (n : Named) (held : List TaggedByte) (o : Option (List TaggedByte)) → version_of entries n.moment n.name ≡ Some held → part_of n.from n.len held ≡ o → named_bytes entries n ≡ o
named-is entries n held o version part = ap (option_and_then (part_of n.from n.len)) version ∙ part
