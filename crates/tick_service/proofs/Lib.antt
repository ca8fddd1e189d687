mod Composite
