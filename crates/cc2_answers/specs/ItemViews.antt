-- An item of the code, as one of the definitions.
use Rattle.cc2_answers.specs.Items.{Item, build, rustc, host, target, cfg, rustc_version, cargo_version}
use Rattle.cc2_answers.specs.declared.words.Item.{Item as CodeItem}
use Rattle.cc2_answers.specs.declared.words.Item.TheVariants as code

abbrev pub item_view : CodeItem → Item
item_view code.Build = build
item_view code.Rustc = rustc
item_view code.Host = host
item_view (code.Target text) = target text.now
item_view (code.Cfg text name) = cfg text.now name.now
item_view code.RustcVersion = rustc_version
item_view code.CargoVersion = cargo_version
