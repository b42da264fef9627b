mod Heading
